use Rattle.std.proofs.Common.{ap, ◌∙◌}
use Rattle.fault_order.specs.Order.{first_of}
use Rattle.expanded_tree.specs.Limits.{at_name}
use Rattle.inliner.proofs.Measures.{not_many, too_many}
use Rattle.inliner.proofs.faults.count_fault.Goals as goal

pub returns-then-size_of-gt-MOST_ELEMENTS : goal.returns-then-size_of-gt-MOST_ELEMENTS
returns-then-size_of-gt-MOST_ELEMENTS c = too_many c.args.comps.now c.args.table.now c.args.root c.requires c.size_of.ensures c.if-size_of-gt-MOST_ELEMENTS.true
    (c.at_name.ensures ∙ ap (λ o. first_of (at_name o)) c.at.ensures)

pub returns-else-size_of-gt-MOST_ELEMENTS : goal.returns-else-size_of-gt-MOST_ELEMENTS
returns-else-size_of-gt-MOST_ELEMENTS c = not_many c.args.comps.now c.args.table.now c.args.root c.requires c.size_of.ensures c.if-size_of-gt-MOST_ELEMENTS.false
