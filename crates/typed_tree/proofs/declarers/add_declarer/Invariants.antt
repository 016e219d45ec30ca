use Rattle.std.proofs.Common.{take}
use Rattle.typed_tree.specs.Declarers.{MoreDeclare}
use Rattle.typed_tree.proofs.declarers.add_declarer.Given as goal

-- the names of the members so far
abbrev pub invariant-loop-member : goal.invariant-loop-member
invariant-loop-member l = MoreDeclare (take l.member-index l.members) l.number l.fn.found l.found
