use Rattle.std.proofs.Common.{None}
use Rattle.expr_types.specs.Nodes.{Denotes}
use Rattle.expr_types.proofs.Standing.{told_standing}
use Rattle.expr_types.proofs.Telling.{came_as, first_told, told_at}
use Rattle.expr_types.proofs.judging.stands_for.Goals as goal

pub denoted_given-requires : goal.denoted_given-requires
denoted_given-requires c = told_standing None c.args.e.now (told_at c.in-Ok-Ok.field-0-is c.in-Ok-Ok.ensures)

pub returns-in-Ok-Ok : goal.returns-in-Ok-Ok
returns-in-Ok-Ok c = came_as (Denotes None c.args.e.now) c.denoted_given.ensures (told_at c.in-Ok-Ok.field-0-is c.in-Ok-Ok.ensures)

pub returns-in-Ok-Err : goal.returns-in-Ok-Err
returns-in-Ok-Err c = first_told (Denotes None c.args.e.now) (told_at c.in-Ok-Err.field-0-is c.in-Ok-Err.ensures)
