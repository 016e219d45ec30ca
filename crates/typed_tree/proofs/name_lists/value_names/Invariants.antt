use Rattle.std.proofs.Common.{◌≡◌, map, take}
use Rattle.typed_tree.proofs.name_lists.value_names.Given as goal

-- the lists so far
abbrev pub invariant-loop-names : goal.invariant-loop-names
invariant-loop-names l = l.lists ≡ map (λ names. names.values) (take l.names-index l.enums)
