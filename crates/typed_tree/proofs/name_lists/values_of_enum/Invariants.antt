use Rattle.std.proofs.Common.{◌≡◌, take}
use Rattle.typed_tree.proofs.name_lists.values_of_enum.Given as goal

-- the names so far
abbrev pub invariant-loop-value : goal.invariant-loop-value
invariant-loop-value l = l.list ≡ take l.value-index l.values
