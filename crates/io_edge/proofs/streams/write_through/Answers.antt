use Rattle.std.proofs.KnownBytes.{Keeps-refl, Keeps-trans}
use Rattle.io_edge.proofs.Told.{kept-Appends}
use Rattle.io_edge.proofs.streams.write_through.Goals as goal

pub loop-init : goal.loop-init
loop-init g c = Keeps-refl _

pub returns-in-Ok-clause-added : goal.returns-in-Ok-clause-added
returns-in-Ok-clause-added g c = kept-Appends _ _ _ _ c.loop.invariant c.in-Ok.ensures.bytes

pub returns-then-ne-clause-kept : goal.returns-then-ne-clause-kept
returns-then-ne-clause-kept g c = Keeps-trans _ _ _ c.loop.invariant c.in-Err.ensures.bytes

pub loop-preserved : goal.loop-preserved
loop-preserved g c = Keeps-trans _ _ _ c.loop.invariant c.in-Err.ensures.bytes
