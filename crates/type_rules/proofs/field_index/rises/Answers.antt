use Rattle.std.proofs.Common.{rules}
use Rattle.type_rules.proofs.FieldIndexes.{falls_here, rises_on}
use Rattle.type_rules.proofs.field_index.rises.Goals as goal

pub returns-then-not-is_below_next : goal.returns-then-not-is_below_next
returns-then-not-is_below_next c =
    falls_here c.args.fields.now c.loop-place.place c.field-item.result c.is_below_next.result _ (search rules) (search rules) (search rules) c.loop-place.invariant c.if-not-is_below_next.true

pub loop-place-preserved : goal.loop-place-preserved
loop-place-preserved c =
    rises_on c.args.fields.now c.loop-place.place c.field-item.result c.is_below_next.result _ (search rules) (search rules) (search rules) c.loop-place.invariant c.if-not-is_below_next.false
