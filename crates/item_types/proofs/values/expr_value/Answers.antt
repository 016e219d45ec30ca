use Rattle.typed_tree.specs.declared.statements.TypedValue.TheVariants as typed_values
use Rattle.item_types.specs.Values.{expression_judging}
use Rattle.item_types.proofs.Leaves.{expression_sound}
use Rattle.item_types.proofs.Telling.{made_in_ok, made_in_err}
use Rattle.item_types.proofs.values.expr_value.Goals as goal

pub returns-in-Ok : goal.returns-in-Ok
returns-in-Ok c = made_in_ok (expression_judging c.args.scope.now c.args.ty.now c.args.e.now) (λ x. typed_values.Expr x) (expression_sound c.args.scope.now c.args.ty.now c.args.e.now) c.in-Ok.is c.in_ok-verdict.ensures

pub returns-in-Err : goal.returns-in-Err
returns-in-Err c = made_in_err (expression_judging c.args.scope.now c.args.ty.now c.args.e.now) (λ x. typed_values.Expr x) (expression_sound c.args.scope.now c.args.ty.now c.args.e.now) c.in-Err.is c.in_ok-verdict.ensures
