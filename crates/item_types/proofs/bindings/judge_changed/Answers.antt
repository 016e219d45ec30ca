use Rattle.item_types.specs.Items.{changed_run}
use Rattle.item_types.proofs.Telling.{if_going, going_in_err}
use Rattle.item_types.proofs.bindings.judge_changed.Goals as goal

pub returns-in-Ok : goal.returns-in-Ok
returns-in-Ok c = if_going (changed_run c.args.scope.now c.args.changed.now.run) c.in-Ok.is c.in_ok-found.ensures c.changed_run.result c.changed_run.ensures

pub returns-in-Err : goal.returns-in-Err
returns-in-Err c = going_in_err (changed_run c.args.scope.now c.args.changed.now.run) c.in-Err.is c.in_ok-found.ensures
