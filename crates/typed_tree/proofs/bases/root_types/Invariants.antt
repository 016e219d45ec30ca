use Rattle.std.proofs.Common.{◌≡◌, map, take}
use Rattle.typed_tree.specs.Bases.{root_type}
use Rattle.typed_tree.proofs.bases.root_types.Given as goal

-- those so far
abbrev pub invariant-loop-comp : goal.invariant-loop-comp
invariant-loop-comp l = l.types ≡ map root_type (take l.comp-index l.comps)
