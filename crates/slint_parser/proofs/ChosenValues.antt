-- Which productions read what a handler runs, and semicolons that may be left out.
use Rattle.std.proofs.Common.{◌≡◌, ℕ, ◌+◌, false, true, List, [], ◌∷◌, sym, refl, subst, append-nil}
use Rattle.std.specs.Prelude.{Option, Some, None, Result, Ok, Err}
use Rattle.slint_base.specs.declared.faults.Span.{Span}
use Rattle.slint_base.specs.declared.endings.End.{End}
use Rattle.slint_lexer.specs.declared.tokens.Symbol.TheVariants as symbols
use Rattle.slint_lexer.specs.declared.tokens.Token.{Token}
use Rattle.slint_parser.specs.declared.stops.Stop.{Stop}
use Rattle.slint_parser.specs.declared.stops.Seen.TheVariants as seens
use Rattle.slint_grammar.specs.Parts as parts
use Rattle.slint_grammar.specs.Grammar.{Sign, one, same, slots}
use Rattle.slint_grammar.specs.Grammar.{Alt as alts}
use Rattle.slint_grammar.specs.Derivations.{Class, ASign, class_of, is_sign}
use Rattle.slint_parser.specs.Readings.{seen, expr_classes, Took, Reads, Closes}
use Rattle.slint_grammar.specs.Stacks.{through, first, longest_chain}
use Rattle.slint_parser.proofs.Signs.{not_sign, took_sign_seen}
use Rattle.slint_parser.proofs.Joining.{Chosen, chosen_at, chosen_first, chosen_second, chosen_took, chosen_stuck, took_by, end_all, and_one, at_one, no_lead, by_alt, refuses_all}
use Rattle.slint_parser.proofs.Forks.{part_none, no_deep}

chosen_semicolon : (d : ℕ) (s : List Token) → seen s ≡ seens.Symbol symbols.Semicolon → Chosen alts.semicolon d s
chosen_semicolon d s e = chosen_at alts.semicolon d s (ASign symbols.Semicolon) e
    (λ ps g. by_alt alts.semicolon (ASign symbols.Semicolon) d ps true (append-nil (through (first longest_chain (ASign symbols.Semicolon)) (slots alts.semicolon) d)) g.0) (λ ps g. tt)

-- what is read where a semicolon may be left out
pub may_close : (d : ℕ) (s r : List Token) (result : Result (Option Span) (End Stop)) → Closes symbols.Semicolon d s result r → Reads parts.MaySemicolon d s result r
may_close d s r (Ok (Some span)) x = chosen_took (chosen_semicolon d s (took_sign_seen symbols.Semicolon d s r span x)) (took_by alts.semicolon (and_one x (end_all d r)))
may_close d s r (Ok None) x =
    let P : List Token → Type 0 = λ z. Took parts.MaySemicolon d s z None in
    subst P (sym x.0) (chosen_took (chosen_first alts.no_semicolon alts.semicolon d s refl refl (λ t o e. no_lead (class_of t.kind) (Sign symbols.Semicolon) [] d (not_sign symbols.Semicolon s x.1 t o e)) (λ ps g. tt))
    (took_by alts.no_semicolon (end_all d s)))
may_close d s r (Err e) x = chosen_stuck (chosen_semicolon d s x.1) (at_one x.0)

pub block_none : (c : Class) (d : ℕ) → is_sign symbols.OpenBrace c ≡ false → first longest_chain c (same parts.Block) d ≡ []
block_none c d n = part_none alts.block (Sign symbols.OpenBrace) (same (parts.Stmts parts.InStmt) ∷ []) c d refl refl n

pub chosen_block_run : (d : ℕ) (s : List Token) → seen s ≡ seens.Symbol symbols.OpenBrace → Chosen alts.block_run d s
chosen_block_run d s e = chosen_at alts.block_run d s (ASign symbols.OpenBrace) e (λ ps g. refl) (λ ps g. (tt, (g, tt)))

pub chosen_expr_run : (d : ℕ) (s : List Token) → (seen s ≡ seens.Symbol symbols.OpenBrace → ⊥) → Chosen alts.expr_run d s
chosen_expr_run d s n = chosen_second alts.block_run alts.expr_run d s refl refl
    (λ t r e. no_deep parts.Block (same parts.MaySemicolon ∷ []) (class_of t.kind) d refl (block_none (class_of t.kind) (d + 1) (not_sign symbols.OpenBrace s n t r e)))
    (λ ps g. (refuses_all expr_classes ((one (Sign symbols.Semicolon), d) ∷ ps) refl, tt))
