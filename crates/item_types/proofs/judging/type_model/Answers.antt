use Rattle.name_lookup.specs.Leads.{body_scope}
use Rattle.item_types.specs.Rows.{model_judging}
use Rattle.item_types.proofs.Inside.{model_inside}
use Rattle.item_types.proofs.Telling.{came, told_at, told_first}
use Rattle.item_types.proofs.judging.type_model.Goals as goal

pub returns-in-Ok-Ok : goal.returns-in-Ok-Ok
returns-in-Ok-Ok c =
    let j = model_judging (body_scope c.args.names.now c.args.site c.args.rows.now) c.args.model.now in
    came j (model_inside c.args.model.now c.new-scope.ensures (told_at (model_judging c.new-scope.result c.args.model.now) c.in-Ok-Ok.field-0-is c.in-Ok-Ok.ensures))

pub returns-in-Ok-Err : goal.returns-in-Ok-Err
returns-in-Ok-Err c =
    let j = model_judging (body_scope c.args.names.now c.args.site c.args.rows.now) c.args.model.now in
    told_first j (model_inside c.args.model.now c.new-scope.ensures (told_at (model_judging c.new-scope.result c.args.model.now) c.in-Ok-Err.field-0-is c.in-Ok-Err.ensures))
