use Rattle.value_types.specs.declared.types.Ty.TheVariants as ty
use Rattle.item_types.specs.Judging.{made}
use Rattle.item_types.specs.Values.{value_judging, plain, share}
use Rattle.item_types.proofs.Telling.{told_at, or_one, or_other, or_neither}
use Rattle.item_types.proofs.values.size_value.Goals as goal

pub returns-in-Ok : goal.returns-in-Ok
returns-in-Ok c =
    let one = made (value_judging c.args.scope.now c.args.ty.now c.args.value.now) plain in
    or_one one (made (value_judging c.args.scope.now ty.Percent c.args.value.now) share) (told_at one c.in-Ok.is c.in_ok-verdict.ensures)

pub returns-in-Ok-as_share : goal.returns-in-Ok-as_share
returns-in-Ok-as_share c =
    let one = made (value_judging c.args.scope.now c.args.ty.now c.args.value.now) plain in
    let other = made (value_judging c.args.scope.now ty.Percent c.args.value.now) share in
    or_other one other (told_at one c.in-Err.is c.in_ok-verdict.ensures) (told_at other c.in-Ok-as_share.is c.in_ok-as_share.ensures)

pub returns-in-Err-as_share : goal.returns-in-Err-as_share
returns-in-Err-as_share c =
    let one = made (value_judging c.args.scope.now c.args.ty.now c.args.value.now) plain in
    let other = made (value_judging c.args.scope.now ty.Percent c.args.value.now) share in
    or_neither one other (told_at one c.in-Err.is c.in_ok-verdict.ensures) (told_at other c.in-Err-as_share.is c.in_ok-as_share.ensures)
