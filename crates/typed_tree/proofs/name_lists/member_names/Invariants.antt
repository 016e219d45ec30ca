use Rattle.std.proofs.Common.{◌≡◌, map, take}
use Rattle.typed_tree.proofs.name_lists.member_names.Given as goal

-- the names so far
abbrev pub invariant-loop-member : goal.invariant-loop-member
invariant-loop-member l = l.list ≡ map (λ m. m.name.name) (take l.member-index l.members)
