use Rattle.layout_solve.proofs.Offsets.{IsPlacing}
use Rattle.layout_solve.proofs.places.place.Given as goal

-- the offsets so far, and where the next item begins where nothing is left of the room
abbrev pub invariant-loop-i : goal.invariant-loop-i
invariant-loop-i l = IsPlacing l.align l.sizes l.fn.room l.fn.spacing l.out l.start l.i
