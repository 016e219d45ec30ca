use Rattle.item_types.specs.Values.{value_judging, constant}
use Rattle.item_types.proofs.Sounds.{value_sound}
use Rattle.item_types.proofs.Telling.{owned_in_ok, owned_in_err}
use Rattle.item_types.proofs.values.constant_value.Goals as goal

pub returns-in-Ok : goal.returns-in-Ok
returns-in-Ok c = owned_in_ok (value_judging c.args.scope.now c.args.ty.now c.args.value.now) (constant c.args.value.now) (value_sound c.args.scope.now c.args.ty.now c.args.value.now) c.in-Ok.is c.constant.ensures c.in_ok-verdict.ensures

pub returns-in-Err : goal.returns-in-Err
returns-in-Err c = owned_in_err (value_judging c.args.scope.now c.args.ty.now c.args.value.now) (constant c.args.value.now) (value_sound c.args.scope.now c.args.ty.now c.args.value.now) c.in-Err.is c.in_ok-verdict.ensures
