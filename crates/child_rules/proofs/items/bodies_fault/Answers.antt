use Rattle.std.proofs.Common.{◌∙◌, ap}
use Rattle.std.specs.List.{flat_map}
use Rattle.fault_order.specs.Order.{first_of, numbered}
use Rattle.child_rules.specs.Children.{body_faults, one_item_faults}
use Rattle.fault_order.proofs.Told.{numbered_end, numbered_turn}
use Rattle.child_rules.proofs.items.bodies_fault.Goals as goal

pub loop-number-preserved : goal.loop-number-preserved
loop-number-preserved c = numbered_turn (body_faults c.args.places.now c.args.component c.first_slot-slot.result) c.args.written.now c.loop-number.number c.index-written-number.result c.loop-number.first c.earlier-first.result c.index-written-number.is c.loop-number-test.true
    (c.in_ok-fault.ensures ∙ ap (λ items. first_of (flat_map (one_item_faults c.args.places.now c.args.component c.loop-number.number c.first_slot-slot.result) items)) c.body.ensures) c.earlier-first.ensures c.loop-number.invariant

pub returns : goal.returns
returns c = numbered_end (body_faults c.args.places.now c.args.component c.first_slot-slot.result) c.args.written.now c.loop-number.number c.loop-number.first c.loop-number-test.false c.loop-number.invariant
    ∙ ap (λ slot. first_of (numbered (body_faults c.args.places.now c.args.component slot) 0 c.args.written.now)) c.first_slot-slot.ensures
