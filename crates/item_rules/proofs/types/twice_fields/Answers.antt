use Rattle.std.proofs.Common.{ap}
use Rattle.item_rules.specs.Types.{field_name}
use Rattle.item_rules.proofs.Turns.{named_end, named_turn, own_name}
use Rattle.item_rules.proofs.types.twice_fields.Goals as goal

pub loop-field-preserved : goal.loop-field-preserved
loop-field-preserved c = named_turn field_name c.args.fields.now c.loop-field.field-index c.field-item.result c.loop-field.seen c.note_if_any.new.seen c.loop-field.fault c.in_ok-fault.fault c.field-item.is c.loop-field-test.true (ap own_name c.name_of.ensures) c.in_ok-fault.ensures c.loop-field.invariant

pub returns : goal.returns
returns c = named_end field_name c.args.fields.now c.loop-field.field-index c.loop-field.seen c.loop-field.fault c.loop-field-test.false c.loop-field.invariant
