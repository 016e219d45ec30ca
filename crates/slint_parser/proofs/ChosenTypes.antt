-- Which production reads a type.
use Rattle.std.proofs.Common.{◌≡◌, ℕ, List, [], ◌∷◌, refl}
use Rattle.slint_lexer.specs.declared.tokens.Symbol.TheVariants as symbols
use Rattle.slint_lexer.specs.declared.tokens.Token.{Token}
use Rattle.slint_parser.specs.declared.stops.Seen.TheVariants as seens
use Rattle.slint_grammar.specs.Parts as parts
use Rattle.slint_grammar.specs.Grammar.{Sign, same, deeper, one}
use Rattle.slint_grammar.specs.Grammar.{Alt as alts}
use Rattle.slint_grammar.specs.Derivations.{ASign, class_of}
use Rattle.slint_parser.specs.Readings.{seen}
use Rattle.slint_parser.proofs.Signs.{not_sign}
use Rattle.slint_parser.proofs.Joining.{Chosen, chosen_at, chosen_alone, no_lead}
use Rattle.slint_parser.proofs.Among.{chosen_among}

pub chosen_array : (d : ℕ) (s : List Token) → seen s ≡ seens.Symbol symbols.OpenBracket → Chosen alts.array_type d s
chosen_array d s e = chosen_at alts.array_type d s (ASign symbols.OpenBracket) e (λ ps g. refl) (λ ps g. (tt, tt))

pub chosen_struct : (d : ℕ) (s : List Token) → seen s ≡ seens.Symbol symbols.OpenBrace → Chosen alts.struct_type d s
chosen_struct d s e = chosen_at alts.struct_type d s (ASign symbols.OpenBrace) e (λ ps g. refl) (λ ps g. (tt, tt))

pub chosen_named : (d : ℕ) (s : List Token) → (seen s ≡ seens.Symbol symbols.OpenBracket → ⊥) → (seen s ≡ seens.Symbol symbols.OpenBrace → ⊥) → Chosen alts.named_type d s
chosen_named d s n m = chosen_among [] alts.named_type (alts.array_type ∷ alts.struct_type ∷ []) d s refl refl
    (λ t r e. (
      tt,
      (
        no_lead (class_of t.kind) (Sign symbols.OpenBracket) (deeper parts.TypeName ∷ one (Sign symbols.CloseBracket) ∷ []) d (not_sign symbols.OpenBracket s n t r e),
        (no_lead (class_of t.kind) (Sign symbols.OpenBrace) (same (parts.Listing parts.Fields) ∷ []) d (not_sign symbols.OpenBrace s m t r e), tt),
      ),
    )) (λ ps g. tt)

pub chosen_field : (d : ℕ) (s : List Token) → Chosen alts.field d s
chosen_field d s = chosen_alone alts.field d s refl refl (λ ps g. (tt, tt))
