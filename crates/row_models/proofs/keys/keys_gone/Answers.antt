use Rattle.std.proofs.Common.{rules}
use Rattle.row_models.proofs.KeyRuns.{gone-more, gone-same, moved_keys}
use Rattle.row_models.proofs.keys.keys_gone.Goals as goal

pub loop-key-preserved-then-is_among : goal.loop-key-preserved-then-is_among
loop-key-preserved-then-is_among c =
    let moved = moved_keys c.args.now.now c.in_ok-sorted.sorted.items c.sort_unstable.new.self.items c.deref.result.now c.in_ok-sorted.ensures.items c.sort_unstable.ensures.permutation c.deref.ensures.value in
    gone-same c.args.now.now c.deref.result.now c.args.old.now c.loop-key.gone.items c.loop-key.key-index c.is_among.result c.loop-key-test.true moved c.is_among.ensures c.if-is_among.true c.loop-key.invariant

pub loop-key-preserved : goal.loop-key-preserved
loop-key-preserved c =
    let moved = moved_keys c.args.now.now c.in_ok-sorted.sorted.items c.sort_unstable.new.self.items c.deref.result.now c.in_ok-sorted.ensures.items c.sort_unstable.ensures.permutation c.deref.ensures.value in
    gone-more c.args.now.now c.deref.result.now c.args.old.now c.loop-key.gone.items c.push.new.self.items c.loop-key.key-index c.is_among.result c.loop-key-test.true moved c.is_among.ensures c.if-is_among.false c.loop-key.invariant (search rules)
