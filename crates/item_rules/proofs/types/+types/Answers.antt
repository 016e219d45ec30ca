use Rattle.item_rules.specs.Types.{field_faults}
use Rattle.item_rules.proofs.Fields.{fields_told}
use Rattle.fault_order.proofs.Told.{told_end, told_turn}
use Rattle.item_rules.proofs.types.+types.Goals as goal

pub types_fault-loop-field-preserved : goal.types_fault-loop-field-preserved
types_fault-loop-field-preserved t c = told_turn field_faults c.args.fields.now c.loop-field.field-index c.field-item.result c.loop-field.first c.earlier-first.result c.field-item.is c.loop-field-test.true c.in_ok-field_fault.ensures c.earlier-first.ensures c.loop-field.invariant

pub types_fault-returns : goal.types_fault-returns
types_fault-returns t c = told_end field_faults c.args.fields.now c.loop-field.field-index c.loop-field.first c.loop-field-test.false c.loop-field.invariant

pub fields_fault-returns : goal.fields_fault-returns
fields_fault-returns t c = fields_told c.args.fields.now c.earlier.ensures c.in_ok-twice.ensures c.in_ok-inner.ensures
