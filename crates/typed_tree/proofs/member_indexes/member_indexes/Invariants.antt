use Rattle.std.proofs.Common.{◌≡◌, length, take}
use Rattle.typed_tree.specs.MemberIndexes.{FindsMembers}
use Rattle.typed_tree.proofs.member_indexes.member_indexes.Given as goal

-- the members of the components so far
abbrev pub invariant-loop-comp : goal.invariant-loop-comp
invariant-loop-comp l = record { same_length : length l.indexes ≡ l.comp-index; finds : FindsMembers (take l.comp-index l.comps) l.indexes }
