use Rattle.std.proofs.Common.{rules, arith}
use Rattle.row_models.proofs.KeyRuns.{keys_from-more}
use Rattle.row_models.proofs.keys.keys_from.Goals as goal

pub loop-key-preserved : goal.loop-key-preserved
loop-key-preserved c = record {
  keys = keys_from-more c.args.first c.loop-key.key c.loop-key.keys.items c.push.new.self.items (omega (arith, c.loop-key.auto.key)) c.loop-key.invariant.keys (search rules);
  count = let one = c.in_ok-push.ensures.len in omega (arith, one, c.loop-key.auto.key, c.loop-key.invariant.count);
}
