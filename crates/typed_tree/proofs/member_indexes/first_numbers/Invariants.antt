use Rattle.std.proofs.Common.{take}
use Rattle.typed_tree.specs.MemberIndexes.{AreFirst}
use Rattle.typed_tree.proofs.member_indexes.first_numbers.Given as goal

-- the first numbers of the members so far
abbrev pub invariant-loop-number : goal.invariant-loop-number
invariant-loop-number l = AreFirst l.names (take l.number l.members) l.numbers
