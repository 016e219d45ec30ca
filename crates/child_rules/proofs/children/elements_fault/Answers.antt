use Rattle.std.proofs.Common.{◌∙◌, ap}
use Rattle.fault_order.specs.Order.{first_of, numbered}
use Rattle.child_rules.specs.Children.{element_faults}
use Rattle.fault_order.proofs.Told.{numbered_end, numbered_turn}
use Rattle.child_rules.proofs.children.elements_fault.Goals as goal

pub loop-number-preserved : goal.loop-number-preserved
loop-number-preserved c = numbered_turn (element_faults c.args.places.now.comps c.args.component) c.elements-elements.result.now c.loop-number.number c.index-elements-number.result c.loop-number.first c.earlier-first.result c.index-elements-number.is c.loop-number-test.true c.element_fault.ensures c.earlier-first.ensures c.loop-number.invariant

pub returns : goal.returns
returns c = numbered_end (element_faults c.args.places.now.comps c.args.component) c.elements-elements.result.now c.loop-number.number c.loop-number.first c.loop-number-test.false c.loop-number.invariant
    ∙ ap (λ elements. first_of (numbered (element_faults c.args.places.now.comps c.args.component) 0 elements)) c.elements-elements.ensures
