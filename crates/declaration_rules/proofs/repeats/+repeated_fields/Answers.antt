use Rattle.std.proofs.Common.{map}
use Rattle.declaration_rules.specs.Repeats.{field_name, repeated}
use Rattle.declaration_rules.proofs.Forms.{inner-all, inner-init, inner-next, repeats-arm}
use Rattle.declaration_rules.proofs.repeats.+repeated_fields.Goals as goal

pub repeated_in_type-returns-in-Struct : goal.repeated_in_type-returns-in-Struct
repeated_in_type-returns-in-Struct t c = repeats-arm c.repeated_in_fields.result c.args.ty.now c.in-Struct.fields c.as_slice.result.now c.in-Struct.field-1 c.in-Struct.is c.as_slice.ensures c.repeated_in_fields.ensures

pub repeated_in_fields-loop-field-init : goal.repeated_in_fields-loop-field-init
repeated_in_fields-loop-field-init t c = inner-init (repeated (map field_name c.args.fields.now)) c.in_ok-first.first c.in_ok-first.ensures

pub repeated_in_fields-loop-field-preserved : goal.repeated_in_fields-loop-field-preserved
repeated_in_fields-loop-field-preserved t c =
    inner-next (repeated (map field_name c.args.fields.now)) c.args.fields.now c.loop-field.field-index c.field-item.result c.loop-field.first c.in_ok-inner.inner c.earlier-first.result
    c.loop-field-test.true c.field-item.is c.loop-field.invariant c.in_ok-inner.ensures c.earlier-first.ensures

pub repeated_in_fields-returns : goal.repeated_in_fields-returns
repeated_in_fields-returns t c = inner-all c.args.fields.now c.loop-field.field-index c.loop-field.first c.loop-field-test.false c.loop-field.invariant
