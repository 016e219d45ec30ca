use Rattle.import_resolver.specs.Loaded.{rows_of}
use Rattle.source_scopes.proofs.Filling.{counts_grow, starts_grow}
use Rattle.source_scopes.proofs.files.starts_of.Goals as goal

pub loop-number-preserved : goal.loop-number-preserved
loop-number-preserved c = record {
  starts = starts_grow (rows_of c.args.loaded.now) c.loop-number.number c.loop-number.starts c.push.new.self c.loop-number.counts c.loop-number.invariant.starts c.loop-number.invariant.counts c.in_ok-push.ensures.ok;
  counts = counts_grow (rows_of c.args.loaded.now) c.loop-number.number c.loop-number.counts c.in_ok-counts.counts c.loop-number.invariant.counts c.in_ok-counts.ensures;
}
