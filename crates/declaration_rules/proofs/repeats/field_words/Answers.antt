use Rattle.std.proofs.Common.{[]}
use Rattle.declaration_rules.specs.Repeats.{field_name}
use Rattle.declaration_rules.proofs.Gathering.{maps-all, maps-next}
use Rattle.declaration_rules.proofs.repeats.field_words.Goals as goal

pub loop-field-preserved : goal.loop-field-preserved
loop-field-preserved c =
    maps-next field_name [] c.loop-field.words c.push_word.new.out c.args.fields.now c.loop-field.field-index c.field-item.result c.loop-field-test.true c.field-item.is c.loop-field.invariant
    c.in_ok-push_word.ensures

pub returns : goal.returns
returns c = maps-all field_name [] c.loop-field.words c.args.fields.now c.loop-field.field-index c.loop-field-test.false c.loop-field.invariant
