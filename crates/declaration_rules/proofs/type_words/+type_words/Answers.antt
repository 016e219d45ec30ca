use Rattle.declaration_rules.specs.Words.{words_of_field}
use Rattle.declaration_rules.proofs.Forms.{struct-arm}
use Rattle.declaration_rules.proofs.Gathering.{gathers-all, gathers-next}
use Rattle.declaration_rules.proofs.type_words.+type_words.Goals as goal

pub push_type-returns-in-Struct : goal.push_type-returns-in-Struct
push_type-returns-in-Struct t c = struct-arm c.push_fields.result c.args.ty.now c.in-Struct.fields c.as_slice.result.now c.in-Struct.field-1 c.args.out.now c.push_fields.new.out c.in-Struct.is c.as_slice.ensures c.push_fields.ensures

pub push_fields-loop-field-preserved : goal.push_fields-loop-field-preserved
push_fields-loop-field-preserved t c =
    gathers-next words_of_field c.args.out.now c.loop-field.out c.push_field.new.out c.args.fields.now c.loop-field.field-index c.field-item.result c.loop-field-test.true c.field-item.is c.loop-field.invariant c.in_ok-push_field.ensures

pub push_fields-returns : goal.push_fields-returns
push_fields-returns t c = gathers-all words_of_field c.args.out.now c.loop-field.out c.args.fields.now c.loop-field.field-index c.loop-field-test.false c.loop-field.invariant
