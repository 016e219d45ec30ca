use Rattle.value_types.specs.declared.types.Ty.TheVariants as ty
use Rattle.name_lookup.specs.Leads.{body_scope}
use Rattle.item_types.specs.Values.{expression_judging}
use Rattle.item_types.proofs.Inside.{expression_inside}
use Rattle.item_types.proofs.Telling.{came, told_at, told_first}
use Rattle.item_types.proofs.judging.type_condition.Goals as goal

pub returns-in-Ok-Ok : goal.returns-in-Ok-Ok
returns-in-Ok-Ok c =
    let j = expression_judging (body_scope c.args.names.now c.args.site c.args.rows.now) ty.Bool c.args.condition.now in
    came j (expression_inside ty.Bool c.args.condition.now c.new-scope.ensures (told_at (expression_judging c.new-scope.result ty.Bool c.args.condition.now) c.in-Ok-Ok.field-0-is c.in-Ok-Ok.ensures))

pub returns-in-Ok-Err : goal.returns-in-Ok-Err
returns-in-Ok-Err c =
    let j = expression_judging (body_scope c.args.names.now c.args.site c.args.rows.now) ty.Bool c.args.condition.now in
    told_first j (expression_inside ty.Bool c.args.condition.now c.new-scope.ensures (told_at (expression_judging c.new-scope.result ty.Bool c.args.condition.now) c.in-Ok-Err.field-0-is c.in-Ok-Err.ensures))
