use Rattle.std.proofs.Common.{Some}
use Rattle.expr_types.specs.Nodes.{At}
use Rattle.expr_types.proofs.Standing.{told_value}
use Rattle.expr_types.proofs.Telling.{came_as, first_told, told_at}
use Rattle.expr_types.proofs.judging.type_expr.Goals as goal

pub value_given-requires : goal.value_given-requires
value_given-requires c = told_value (Some c.args.place.now) c.args.e.now (told_at c.in-Ok-Ok.field-0-is c.in-Ok-Ok.ensures)

pub returns-in-Ok-Ok : goal.returns-in-Ok-Ok
returns-in-Ok-Ok c = came_as (At (Some c.args.place.now) c.args.e.now) c.value_given.ensures (told_at c.in-Ok-Ok.field-0-is c.in-Ok-Ok.ensures)

pub returns-in-Ok-Err : goal.returns-in-Ok-Err
returns-in-Ok-Err c = first_told (At (Some c.args.place.now) c.args.e.now) (told_at c.in-Ok-Err.field-0-is c.in-Ok-Err.ensures)
