use Rattle.expr_types.specs.Nodes.{Body}
use Rattle.expr_types.proofs.Standing.{told_block}
use Rattle.expr_types.proofs.Telling.{came_as, first_told, told_at}
use Rattle.expr_types.proofs.judging.type_block.Goals as goal

pub block_given-requires : goal.block_given-requires
block_given-requires c = told_block c.args.place.now c.args.stmts.now c.args.span (told_at c.in-Ok-Ok.field-0-is c.in-Ok-Ok.ensures)

pub returns-in-Ok-Ok : goal.returns-in-Ok-Ok
returns-in-Ok-Ok c = came_as (Body c.args.place.now c.args.stmts.now c.args.span) c.block_given.ensures (told_at c.in-Ok-Ok.field-0-is c.in-Ok-Ok.ensures)

pub returns-in-Ok-Err : goal.returns-in-Ok-Err
returns-in-Ok-Err c = first_told (Body c.args.place.now c.args.stmts.now c.args.span) (told_at c.in-Ok-Err.field-0-is c.in-Ok-Err.ensures)
