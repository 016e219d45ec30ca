use Rattle.std.proofs.Common.{◌≡◌, suc, ◌-◌, ◌≤◌, List, [], ◌∷◌, length, get_or, ap, ◌∙◌, arith}
use Rattle.slint_base.specs.declared.faults.Span.{Span}
use Rattle.syntax_tree.specs.declared.expressions.Suffix.{Suffix, out-Suffix}
use Rattle.slint_grammar.specs.Trees.{behind_suffixes, suffix_layer_span}
use Rattle.slint_parser.proofs.trees.behind_suffixes.Goals as goal

last_one : (xs : List Suffix) (span : Span) (o : Suffix) → 1 ≤ length xs → o ≡ get_or xs (length xs - 1) o → suffix_layer_span (out-Suffix o) ≡ behind_suffixes span xs
last_one [] span o some is = absurd (omega arith)
last_one (x ∷ []) span o some is = ap (λ (o : Suffix). suffix_layer_span (out-Suffix o)) is
last_one (x ∷ y ∷ xs) span o some is =
    let step : length (x ∷ y ∷ xs) - 1 ≡ suc (length (y ∷ xs) - 1) = omega arith in
    last_one (y ∷ xs) (suffix_layer_span (out-Suffix x)) o (omega arith) (is ∙ ap (λ k. get_or (x ∷ y ∷ xs) k o) step)

pub returns-in-len1-up : goal.returns-in-len1-up
returns-in-len1-up c = c.suffix_span.ensures ∙ last_one _ c.args.span c.last-item.result c.in-len1-up.len_at_least c.last-item.is
