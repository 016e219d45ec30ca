use Rattle.std.proofs.Common.{Ok, ap, sym}
use Rattle.syntax_tree.specs.Spans.{expr_span}
use Rattle.value_types.specs.declared.types.Ty.TheVariants as ty
use Rattle.item_types.specs.Judging.{made}
use Rattle.item_types.specs.Rows.{counted_rows}
use Rattle.item_types.specs.Values.{expression_judging}
use Rattle.item_types.proofs.Leaves.{expression_sound}
use Rattle.item_types.proofs.Telling.{made_in_ok, made_in_err, told_at}
use Rattle.item_types.proofs.models.judge_count.Goals as goal

pub returns-in-Ok : goal.returns-in-Ok
returns-in-Ok c = told_at (made (expression_judging c.args.scope.now ty.Int c.args.e.now) (counted_rows (expr_span c.args.e.now))) (ap (λ z. Ok (counted_rows z c.in-Ok.count)) (sym c.span.ensures))
    (made_in_ok (expression_judging c.args.scope.now ty.Int c.args.e.now) (counted_rows (expr_span c.args.e.now)) (expression_sound c.args.scope.now ty.Int c.args.e.now) c.in-Ok.is c.in_ok-verdict.ensures)

pub returns-in-Err : goal.returns-in-Err
returns-in-Err c = made_in_err (expression_judging c.args.scope.now ty.Int c.args.e.now) (counted_rows (expr_span c.args.e.now)) (expression_sound c.args.scope.now ty.Int c.args.e.now) c.in-Err.is c.in_ok-verdict.ensures
