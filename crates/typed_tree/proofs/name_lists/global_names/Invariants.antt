use Rattle.std.proofs.Common.{◌≡◌, map, take}
use Rattle.typed_tree.specs.Indexes.{member_names}
use Rattle.typed_tree.proofs.name_lists.global_names.Given as goal

-- the lists so far
abbrev pub invariant-loop-global : goal.invariant-loop-global
invariant-loop-global l = l.lists ≡ map (λ g. member_names g.members) (take l.global-index l.globals)
