use Rattle.std.proofs.Common.{rules}
use Rattle.type_rules.proofs.FieldIndexes.{not_among, all_among}
use Rattle.type_rules.proofs.conversions.names_within.Goals as goal

pub returns-then-not-has : goal.returns-then-not-has
returns-then-not-has c =
    not_among c.args.fields.now c.args.others.now c.loop-field.field-index c.field-item.result c.has.result _ (search rules) (search rules) (search rules) c.loop-field.invariant c.if-not-has.true

pub loop-field-preserved : goal.loop-field-preserved
loop-field-preserved c =
    all_among c.args.fields.now c.args.others.now c.loop-field.field-index c.field-item.result c.has.result _ (search rules) (search rules) (search rules) c.loop-field.invariant c.if-not-has.false
