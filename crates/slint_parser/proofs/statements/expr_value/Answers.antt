use Rattle.std.proofs.Common.{◌≡◌, ℕ, ◌+◌, List, subst}
use Rattle.slint_base.specs.declared.endings.End.{End}
use Rattle.slint_lexer.specs.declared.tokens.Token.{Token}
use Rattle.syntax_tree.specs.declared.expressions.Expr.{Expr}
use Rattle.slint_parser.specs.declared.stops.Stop.{Stop}
use Rattle.slint_grammar.specs.Parts as parts
use Rattle.slint_grammar.specs.Grammar.{Alt as alts}
use Rattle.slint_parser.specs.Readings.{Took, Stuck}
use Rattle.slint_parser.proofs.Joining.{alt_error, took_by, end_all, and_one, and_deep, at_one, at_deep, past_deep}
use Rattle.slint_parser.proofs.statements.expr_value.Goals as goal

took_at : (d : ℕ) (s m : List Token) (e : Expr) (h k : parts.Start) → h ≡ k → Took (parts.Expr h) (d + 1) s m e → Took (parts.Expr k) (d + 1) s m e
took_at d s m e h k i x = let P : parts.Start → Type 0 = λ z. Took (parts.Expr z) (d + 1) s m e in subst P i x

stuck_at : (d : ℕ) (s : List Token) (e : End Stop) (h k : parts.Start) → h ≡ k → Stuck (parts.Expr h) (d + 1) s e → Stuck (parts.Expr k) (d + 1) s e
stuck_at d s e h k i x = let P : parts.Start → Type 0 = λ z. Stuck (parts.Expr z) (d + 1) s e in subst P i x

pub returns-in_err-value-clause-of_value : goal.returns-in_err-value-clause-of_value
returns-in_err-value-clause-of_value c i =
    alt_error alts.expr_value c.args.depth c.args.cursor.now c.expr.new.cursor _ c.from_residual.result c.from_residual.ensures.1 (at_deep c.args.depth (stuck_at c.args.depth c.args.cursor.now _ _ parts.InValue i c.in_err-value.ensures))

pub returns-in_err-end-clause-of_value : goal.returns-in_err-end-clause-of_value
returns-in_err-end-clause-of_value c i =
    alt_error alts.expr_value c.args.depth c.args.cursor.now c.symbol.new.self _ c.from_residual-in_err-end.result c.from_residual-in_err-end.ensures.1
    (past_deep c.args.depth (took_at c.args.depth c.args.cursor.now c.expr.new.cursor c.in_ok-value.value _ parts.InValue i c.in_ok-value.ensures) (at_one c.in_err-end.ensures))

pub returns-clause-of_value : goal.returns-clause-of_value
returns-clause-of_value c i =
    rw c.into_inner.ensures (took_by alts.expr_value (and_deep c.args.depth (took_at c.args.depth c.args.cursor.now c.expr.new.cursor c.in_ok-value.value _ parts.InValue i c.in_ok-value.ensures) (and_one c.in_ok-end.ensures (end_all c.args.depth c.symbol.new.self))))

pub returns-in_err-value-clause-of_run : goal.returns-in_err-value-clause-of_run
returns-in_err-value-clause-of_run c i =
    alt_error alts.expr_run c.args.depth c.args.cursor.now c.expr.new.cursor _ c.from_residual.result c.from_residual.ensures.1 (at_deep c.args.depth (stuck_at c.args.depth c.args.cursor.now _ _ parts.InRun i c.in_err-value.ensures))

pub returns-in_err-end-clause-of_run : goal.returns-in_err-end-clause-of_run
returns-in_err-end-clause-of_run c i =
    alt_error alts.expr_run c.args.depth c.args.cursor.now c.symbol.new.self _ c.from_residual-in_err-end.result c.from_residual-in_err-end.ensures.1
    (past_deep c.args.depth (took_at c.args.depth c.args.cursor.now c.expr.new.cursor c.in_ok-value.value _ parts.InRun i c.in_ok-value.ensures) (at_one c.in_err-end.ensures))

pub returns-clause-of_run : goal.returns-clause-of_run
returns-clause-of_run c i =
    rw c.into_inner.ensures (took_by alts.expr_run (and_deep c.args.depth (took_at c.args.depth c.args.cursor.now c.expr.new.cursor c.in_ok-value.value _ parts.InRun i c.in_ok-value.ensures) (and_one c.in_ok-end.ensures (end_all c.args.depth c.symbol.new.self))))
