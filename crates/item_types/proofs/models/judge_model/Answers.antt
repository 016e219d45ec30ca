use Rattle.syntax_tree.specs.Spans.{expr_span}
use Rattle.value_types.specs.declared.types.Ty.TheVariants as ty
use Rattle.item_types.specs.Judging.{made, or_as, owned}
use Rattle.item_types.specs.Rows.{array_rows, counted_rows}
use Rattle.item_types.specs.Values.{expression_judging, standing_judging}
use Rattle.item_types.proofs.Telling.{as_one, as_other, if_same, told_at}
use Rattle.item_types.proofs.models.judge_model.Goals as goal

pub returns-in-Ok : goal.returns-in-Ok
returns-in-Ok c =
    let one = owned (standing_judging c.args.scope.now c.args.e.now) (array_rows c.args.scope.now (expr_span c.args.e.now)) in
    let other = made (expression_judging c.args.scope.now ty.Int c.args.e.now) (counted_rows (expr_span c.args.e.now)) in
    as_one one other (told_at one c.in-Ok.is c.in_ok-verdict.ensures)

pub returns-in-Err : goal.returns-in-Err
returns-in-Err c =
    let one = owned (standing_judging c.args.scope.now c.args.e.now) (array_rows c.args.scope.now (expr_span c.args.e.now)) in
    let other = made (expression_judging c.args.scope.now ty.Int c.args.e.now) (counted_rows (expr_span c.args.e.now)) in
    if_same other (or_as one other) (λ v t. as_other one other (told_at one c.in-Err.is c.in_ok-verdict.ensures) t) c.judge_count.result c.judge_count.ensures
