use Rattle.std.proofs.Common.{◌≡◌, ◌++◌, length, drop}
use Rattle.source_elements.specs.Elements.{elements_of_body}
use Rattle.source_elements.proofs.collecting.+collecting.Given as goal

-- the elements so far and those of the items that are left are all of them
abbrev pub invariant-push_body-loop-item : goal.invariant-push_body-loop-item
invariant-push_body-loop-item l = l.out ++ elements_of_body (drop l.item-index l.items) l.around (length l.out) ≡ l.initial.out ++ elements_of_body l.items l.around (length l.initial.out)
