use Rattle.std.proofs.Common.{ap, ◌∙◌, ◌&&◌}
use Rattle.std.specs.Option.{option_copied}
use Rattle.expr_types.specs.Nodes.{Braces, Otherwise, Statement, braces, has_else}
use Rattle.syntax_tree.specs.declared.statements.Block.{out-Block}
use Rattle.syntax_tree.specs.declared.statements.Else.{out-Else}
use Rattle.expr_types.proofs.Telling.{empty_seen, told_of}
use Rattle.expr_types.proofs.Statements.{statement_turn, statements_end}
use Rattle.expr_types.proofs.blocks.+judging_blocks.Goals as goal

pub judge_braces-loop-number-init : goal.judge_braces-loop-number-init
judge_braces-loop-number-init t c = empty_seen c.new.ensures

pub judge_braces-loop-number-preserved : goal.judge_braces-loop-number-preserved
judge_braces-loop-number-preserved t c = statement_turn c.args.ty.now c.args.ends c.args.stmts.now c.loop-number.number c.index-stmts-number.result c.ends_with-is_end.result (option_copied c.at.result) c.index-stmts-number.is c.loop-number-test.true c.ends_with-is_end.ensures c.at.ensures
    (c.in_ok-seen.ensures c.args.scope.now (Statement c.args.ty.now c.ends_with-is_end.result c.index-stmts-number.result) c.in_ok-told.ensures _ c.loop-number.invariant)

pub judge_braces-returns : goal.judge_braces-returns
judge_braces-returns t c = c.in_ok-verdict.ensures c.args.scope.now c.args.ty.now c.args.ends (statements_end c.args.ty.now c.args.ends c.args.stmts.now c.loop-number.number c.loop-number-test.false c.loop-number.invariant)

pub see_if-returns : goal.see_if-returns
see_if-returns t c =
    let same = ap (λ b. Braces c.args.ty.now b c.as_slice.result.now (out-Block c.args.block.now).span) c.ends_inside-is_end.ensures
    ∙ ap (λ z. Braces c.args.ty.now (c.args.ends && has_else (out-Else c.args.otherwise.now)) z (out-Block c.args.block.now).span) c.as_slice.ensures in
    c.in_ok-parts.ensures c.args.scope.now (Otherwise c.args.ty.now c.args.ends c.args.otherwise.now) c.in_ok-second.ensures _
    (c.in_ok-before.ensures c.args.scope.now (braces c.args.ty.now (c.args.ends && has_else (out-Else c.args.otherwise.now)) c.args.block.now) (told_of same c.in_ok-first.ensures) _ c.in_ok-condition.ensures)
