use Rattle.std.proofs.Common.{take}
use Rattle.typed_tree.specs.Declarers.{AreDeclarers}
use Rattle.typed_tree.proofs.declarers.declarers.Given as goal

-- of the components so far
abbrev pub invariant-loop-number : goal.invariant-loop-number
invariant-loop-number l = AreDeclarers (take l.number l.comps) l.found
