use Rattle.std.proofs.Common.{◌≡◌, map, take}
use Rattle.typed_tree.specs.Indexes.{ids_of}
use Rattle.typed_tree.proofs.name_lists.component_ids.Given as goal

-- the lists so far
abbrev pub invariant-loop-comp : goal.invariant-loop-comp
invariant-loop-comp l = l.lists ≡ map (λ comp. ids_of comp.elements) (take l.comp-index l.comps)
