use Rattle.std.proofs.Common.{rules, sym}
use Rattle.type_rules.proofs.FieldLemmas.{lengths_differ, names_differ, types_differ, fields_same, no_place}
use Rattle.type_rules.proofs.sameness.+same.Goals as goal

pub same_fields-returns-then-len : goal.same_fields-returns-then-len
same_fields-returns-then-len t c = sym (lengths_differ c.args.fields.now c.args.others.now (search rules))

pub same_fields-returns-in_default : goal.same_fields-returns-in_default
same_fields-returns-in_default t c = absurd (no_place c.args.fields.now c.args.others.now c.loop-place.place c.field-item.result c.loop-place.invariant.0 (search rules) (search rules))

pub same_fields-returns-then-ne : goal.same_fields-returns-then-ne
same_fields-returns-then-ne t c =
    names_differ c.args.fields.now c.args.others.now c.loop-place.place c.field-item.result c.in-Some.other.now _ (search rules) (search rules) (search rules) c.loop-place.invariant.1 c.ne.result c.ne.ensures c.if-ne.true

pub same_fields-returns-then-not-same : goal.same_fields-returns-then-not-same
same_fields-returns-then-not-same t c =
    types_differ c.args.fields.now c.args.others.now c.loop-place.place c.field-item.result c.in-Some.other.now _ (search rules) (search rules) (search rules) c.loop-place.invariant.1 (search rules)

pub same_fields-loop-place-preserved : goal.same_fields-loop-place-preserved
same_fields-loop-place-preserved t c = (
  c.loop-place.invariant.0,
  fields_same c.args.fields.now c.args.others.now c.loop-place.place c.field-item.result c.in-Some.other.now _ (search rules) (search rules) (search rules) c.loop-place.invariant.1 c.ne.result c.ne.ensures c.if-ne.false (search rules),
)
