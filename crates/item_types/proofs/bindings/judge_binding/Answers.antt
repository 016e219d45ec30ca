use Rattle.item_types.specs.Items.{bound}
use Rattle.item_types.proofs.Telling.{if_going, going_in_err}
use Rattle.item_types.proofs.bindings.judge_binding.Goals as goal

pub returns-in-Ok : goal.returns-in-Ok
returns-in-Ok c = if_going (bound c.args.scope.now c.args.value.now) c.in-Ok.is c.in_ok-found.ensures c.bound.result c.bound.ensures

pub returns-in-Err : goal.returns-in-Err
returns-in-Err c = going_in_err (bound c.args.scope.now c.args.value.now) c.in-Err.is c.in_ok-found.ensures
