use Rattle.std.proofs.Common.{All, take}
use Rattle.layout_solve.specs.Items.{IsItem}
use Rattle.runtime_tests.proofs.boxes.are_items.Given as goal

-- the items so far are items
abbrev pub invariant-loop-item : goal.invariant-loop-item
invariant-loop-item l = All IsItem (take l.item-index l.items)
