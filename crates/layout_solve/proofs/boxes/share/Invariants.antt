use Rattle.layout_solve.proofs.Sharing.{IsSharing}
use Rattle.layout_solve.proofs.boxes.share.Given as goal

-- the sizes so far, and what is left
abbrev pub invariant-loop-i : goal.invariant-loop-i
invariant-loop-i l = IsSharing l.sizing l.items l.fn.rest l.out l.left l.i
