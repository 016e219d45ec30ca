use Rattle.std.proofs.Common.{◌≡◌, ◌+◌, ◌-◌, ◌<◌, vec_len}
use Rattle.std.specs.Io.KnownBytes.{Consumes}
use Rattle.io_edge.specs.Counts.{IsQuiet}
use Rattle.io_edge.proofs.whole.take_up_to.Given as goal

abbrev pub invariant-loop-source : goal.invariant-loop-source
invariant-loop-source g l = record {
  room : 0 < vec_len l.piece;
  taken : Consumes (g.S.Source.left l.fn.source) (g.S.Source.left l.source) l.taken.items;
  counted : g.S.Source.faults l.source ≡ g.S.Source.faults l.fn.source;
  steady : g.S.Source.is_steady l.fn.source → IsQuiet (g.S.Source.is_steady l.source) (g.S.Source.faults l.fn.source) (g.S.Source.faults l.source);
}

abbrev pub decreases-loop-source : goal.decreases-loop-source
decreases-loop-source g l = l.limit + 1 - vec_len l.taken
