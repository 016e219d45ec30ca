use Rattle.std.proofs.Common.{Ok, None, Some, Option, sym}
use Rattle.value_types.specs.declared.types.Ty.TheVariants as ty
use Rattle.item_types.specs.Values.{expression_judging}
use Rattle.item_types.proofs.Inside.{optional_of}
use Rattle.item_types.proofs.Leaves.{expression_sound}
use Rattle.item_types.proofs.Telling.{at_once_told, made_in_ok, made_in_err}
use Rattle.item_types.proofs.states.judge_condition.Goals as goal

pub returns-in_default : goal.returns-in_default
returns-in_default c = optional_of (expression_judging c.args.scope.now ty.Bool) c.in_default.is (at_once_told (Ok None))

pub returns-in-Ok : goal.returns-in-Ok
returns-in-Ok c = optional_of (expression_judging c.args.scope.now ty.Bool) c.in-Some.is (made_in_ok (expression_judging c.args.scope.now ty.Bool c.in-Some.e) (λ x. Some x) (expression_sound c.args.scope.now ty.Bool c.in-Some.e) c.in-Ok.is c.in_ok-verdict.ensures)

pub returns-in-Err : goal.returns-in-Err
returns-in-Err c = optional_of (expression_judging c.args.scope.now ty.Bool) c.in-Some.is (made_in_err (expression_judging c.args.scope.now ty.Bool c.in-Some.e) (λ x. Some x) (expression_sound c.args.scope.now ty.Bool c.in-Some.e) c.in-Err.is c.in_ok-verdict.ensures)
