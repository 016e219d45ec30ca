use Rattle.std.proofs.Common.{ap, sym}
use Rattle.syntax_tree.specs.Spans.{expr_span}
use Rattle.item_types.specs.Rows.{array_rows}
use Rattle.item_types.specs.Values.{standing_judging}
use Rattle.item_types.proofs.Inside.{if_owned}
use Rattle.item_types.proofs.Leaves.{standing_sound}
use Rattle.item_types.proofs.Telling.{owned_in_err}
use Rattle.item_types.proofs.models.judge_array.Goals as goal

pub returns-in-Ok : goal.returns-in-Ok
returns-in-Ok c = if_owned (standing_judging c.args.scope.now c.args.e.now) (array_rows c.args.scope.now (expr_span c.args.e.now)) (standing_sound c.args.scope.now c.args.e.now) (array_rows c.args.scope.now c.span.result c.in-Ok.denoted)
    c.in-Ok.is (ap (λ z. array_rows c.args.scope.now z c.in-Ok.denoted) c.span.ensures) c.in_ok-verdict.ensures c.array_rows.result c.array_rows.ensures

pub returns-in-Err : goal.returns-in-Err
returns-in-Err c = owned_in_err (standing_judging c.args.scope.now c.args.e.now) (array_rows c.args.scope.now (expr_span c.args.e.now)) (standing_sound c.args.scope.now c.args.e.now) c.in-Err.is c.in_ok-verdict.ensures
