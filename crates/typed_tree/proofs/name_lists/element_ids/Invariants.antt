use Rattle.std.proofs.Common.{◌≡◌, map, take}
use Rattle.typed_tree.specs.Indexes.{id_text}
use Rattle.typed_tree.proofs.name_lists.element_ids.Given as goal

-- the ids so far
abbrev pub invariant-loop-element : goal.invariant-loop-element
invariant-loop-element l = l.list ≡ map (λ e. id_text e.id) (take l.element-index l.elements)
