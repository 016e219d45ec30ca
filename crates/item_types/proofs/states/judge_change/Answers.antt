use Rattle.item_types.specs.Items.{change_to}
use Rattle.item_types.proofs.Telling.{if_going, going_in_err}
use Rattle.item_types.proofs.states.judge_change.Goals as goal

pub returns-in-Ok : goal.returns-in-Ok
returns-in-Ok c = if_going (change_to c.args.scope.now c.args.change.now) c.in-Ok.is c.in_ok-found.ensures c.change_to.result c.change_to.ensures

pub returns-in-Err : goal.returns-in-Err
returns-in-Err c = going_in_err (change_to c.args.scope.now c.args.change.now) c.in-Err.is c.in_ok-found.ensures
