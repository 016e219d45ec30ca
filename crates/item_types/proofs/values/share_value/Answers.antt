use Rattle.value_types.specs.declared.types.Ty.TheVariants as ty
use Rattle.item_types.specs.Values.{value_judging, share}
use Rattle.item_types.proofs.Sounds.{value_sound}
use Rattle.item_types.proofs.Telling.{made_in_ok, made_in_err}
use Rattle.item_types.proofs.values.share_value.Goals as goal

pub returns-in-Ok : goal.returns-in-Ok
returns-in-Ok c = made_in_ok (value_judging c.args.scope.now ty.Percent c.args.value.now) share (value_sound c.args.scope.now ty.Percent c.args.value.now) c.in-Ok.is c.in_ok-verdict.ensures

pub returns-in-Err : goal.returns-in-Err
returns-in-Err c = made_in_err (value_judging c.args.scope.now ty.Percent c.args.value.now) share (value_sound c.args.scope.now ty.Percent c.args.value.now) c.in-Err.is c.in_ok-verdict.ensures
