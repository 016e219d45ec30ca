use Rattle.std.proofs.Common.{◌+◌, ◌-◌, ◌*◌, length}
use Rattle.slint_parser.proofs.ChosenItems.{ItemsSoFar}
use Rattle.slint_parser.proofs.bodies.+items.Given as goal

abbrev pub decreases-body : goal.decreases-body
decreases-body l = (102 - l.depth) * 8 + 7

abbrev pub decreases-items : goal.decreases-items
decreases-items l = (102 - l.depth) * 8 + 6

abbrev pub decreases-item : goal.decreases-item
decreases-item l = (102 - l.depth) * 8 + 5

abbrev pub decreases-named_item : goal.decreases-named_item
decreases-named_item l = (102 - l.depth) * 8 + 4

abbrev pub decreases-if_item : goal.decreases-if_item
decreases-if_item l = (102 - l.depth) * 8 + 4

abbrev pub decreases-for_item : goal.decreases-for_item
decreases-for_item l = (102 - l.depth) * 8 + 4

abbrev pub decreases-guarded : goal.decreases-guarded
decreases-guarded l = (102 - l.depth) * 8 + 3

abbrev pub decreases-element : goal.decreases-element
decreases-element l = (102 - l.depth) * 8 + 2

abbrev pub decreases-element_item : goal.decreases-element_item
decreases-element_item l = (102 - l.depth) * 8 + 2

abbrev pub decreases-named_element_item : goal.decreases-named_element_item
decreases-named_element_item l = (102 - l.depth) * 8 + 2

abbrev pub decreases-plain_element : goal.decreases-plain_element
decreases-plain_element l = (102 - l.depth) * 8 + 1

abbrev pub decreases-named_element : goal.decreases-named_element
decreases-named_element l = (102 - l.depth) * 8 + 1

abbrev pub invariant-items-turns : goal.invariant-items-turns
invariant-items-turns l = ItemsSoFar l.depth l.fn.cursor l.cursor l.all

abbrev pub decreases-items-turns : goal.decreases-items-turns
decreases-items-turns l = length l.cursor
