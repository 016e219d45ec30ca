use Rattle.std.proofs.KnownBytes.{Keeps-refl, Keeps-trans}
use Rattle.io_edge.proofs.Told.{kept-Consumes}
use Rattle.io_edge.proofs.streams.read_through.Goals as goal

pub loop-init : goal.loop-init
loop-init g c = Keeps-refl _

pub returns-in-Ok-clause-taken : goal.returns-in-Ok-clause-taken
returns-in-Ok-clause-taken g c = kept-Consumes _ _ _ _ c.loop.invariant c.in-Ok.ensures.bytes.0

pub returns-then-ne-clause-kept : goal.returns-then-ne-clause-kept
returns-then-ne-clause-kept g c = Keeps-trans _ _ _ c.loop.invariant c.in-Err.ensures.bytes

pub loop-preserved : goal.loop-preserved
loop-preserved g c = Keeps-trans _ _ _ c.loop.invariant c.in-Err.ensures.bytes
