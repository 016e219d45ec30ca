use Rattle.item_types.specs.Items.{handler_run}
use Rattle.item_types.proofs.Telling.{if_going, going_in_err}
use Rattle.item_types.proofs.handlers.judge_handler.Goals as goal

pub returns-in-Ok : goal.returns-in-Ok
returns-in-Ok c = if_going (handler_run c.args.scope.now c.args.handler.now) c.in-Ok.is c.in_ok-found.ensures c.handler_run.result c.handler_run.ensures

pub returns-in-Err : goal.returns-in-Err
returns-in-Err c = going_in_err (handler_run c.args.scope.now c.args.handler.now) c.in-Err.is c.in_ok-found.ensures
