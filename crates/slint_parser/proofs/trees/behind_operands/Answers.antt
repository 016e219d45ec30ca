use Rattle.std.proofs.Common.{◌≡◌, suc, ◌-◌, ◌≤◌, List, [], ◌∷◌, length, get_or, ap, ◌∙◌, arith}
use Rattle.slint_base.specs.declared.faults.Span.{Span}
use Rattle.syntax_tree.specs.declared.expressions.Operand.{Operand, out-Operand}
use Rattle.slint_grammar.specs.Trees.{behind_operands}
use Rattle.syntax_tree.specs.Spans.{expr_span}
use Rattle.slint_parser.proofs.trees.behind_operands.Goals as goal

last_one : (xs : List Operand) (span : Span) (o : Operand) → 1 ≤ length xs → o ≡ get_or xs (length xs - 1) o → expr_span (out-Operand o).right ≡ behind_operands span xs
last_one [] span o some is = absurd (omega arith)
last_one (x ∷ []) span o some is = ap (λ (o : Operand). expr_span (out-Operand o).right) is
last_one (x ∷ y ∷ xs) span o some is =
    let step : length (x ∷ y ∷ xs) - 1 ≡ suc (length (y ∷ xs) - 1) = omega arith in
    last_one (y ∷ xs) (expr_span (out-Operand x).right) o (omega arith) (is ∙ ap (λ k. get_or (x ∷ y ∷ xs) k o) step)

pub returns-in-len1-up : goal.returns-in-len1-up
returns-in-len1-up c = c.span_of.ensures ∙ last_one _ c.args.span c.last-item.result c.in-len1-up.len_at_least c.last-item.is
