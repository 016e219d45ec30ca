-- Lists with commas between: which production is chosen where, and what is read.
use Rattle.std.proofs.Common.{◌≡◌, ℕ, List, [], sym, refl, ap, ◌∙◌, subst}
use Rattle.std.specs.Prelude.{Option, Some, None, Result, Ok, Err}
use Rattle.std.specs.Result.{IsErrAnd}
use Rattle.slint_base.specs.declared.faults.Span.{Span}
use Rattle.slint_base.specs.declared.endings.End.{End}
use Rattle.slint_lexer.specs.declared.tokens.Symbol.{Symbol}
use Rattle.slint_lexer.specs.declared.tokens.Symbol.TheVariants as symbols
use Rattle.slint_lexer.specs.declared.tokens.Token.{Token}
use Rattle.slint_parser.specs.declared.stops.Seen.TheVariants as seens
use Rattle.slint_parser.specs.declared.stops.Stop.{Stop}
use Rattle.slint_grammar.specs.Parts.{Listed, closer, Listing, Rest}
use Rattle.slint_grammar.specs.Parts as parts
use Rattle.slint_grammar.specs.Grammar.{Sign}
use Rattle.slint_grammar.specs.Grammar.{Alt as alts}
use Rattle.slint_grammar.specs.Derivations.{ASign, class_of}
use Rattle.slint_parser.specs.Readings.{seen, TookOne, StuckOne, Took, Stuck, Closes, BehindItem}
use Rattle.slint_parser.proofs.Signs.{not_sign, took_sign_seen}
use Rattle.slint_parser.proofs.Joining as joining
use Rattle.slint_parser.proofs.Joining.{Chosen, chosen_at, chosen_first, chosen_second, chosen_took, chosen_stuck, took_by, and_one, and_same, end_all, at_one, at_same, past_one, no_lead}

pub rest_closes : (l : Listed) (d : ℕ) (s : List Token) → seen s ≡ seens.Symbol (closer l) → Chosen (alts.rest_closes {l = l}) d s
rest_closes parts.Aliases d s h = chosen_at (alts.rest_closes {l = parts.Aliases}) d s (ASign symbols.CloseBrace) h (λ ps g. refl) (λ ps g. tt)
rest_closes parts.Fields d s h = chosen_at (alts.rest_closes {l = parts.Fields}) d s (ASign symbols.CloseBrace) h (λ ps g. refl) (λ ps g. tt)
rest_closes parts.EnumValues d s h = chosen_at (alts.rest_closes {l = parts.EnumValues}) d s (ASign symbols.CloseBrace) h (λ ps g. refl) (λ ps g. tt)
rest_closes parts.Parameters d s h = chosen_at (alts.rest_closes {l = parts.Parameters}) d s (ASign symbols.CloseParen) h (λ ps g. refl) (λ ps g. tt)
rest_closes parts.FunctionParameters d s h = chosen_at (alts.rest_closes {l = parts.FunctionParameters}) d s (ASign symbols.CloseParen) h (λ ps g. refl) (λ ps g. tt)
rest_closes parts.HandlerParameters d s h = chosen_at (alts.rest_closes {l = parts.HandlerParameters}) d s (ASign symbols.CloseParen) h (λ ps g. refl) (λ ps g. tt)
rest_closes parts.Arguments d s h = chosen_at (alts.rest_closes {l = parts.Arguments}) d s (ASign symbols.CloseParen) h (λ ps g. refl) (λ ps g. tt)
rest_closes parts.Elements d s h = chosen_at (alts.rest_closes {l = parts.Elements}) d s (ASign symbols.CloseBracket) h (λ ps g. refl) (λ ps g. tt)
rest_closes parts.FieldValues d s h = chosen_at (alts.rest_closes {l = parts.FieldValues}) d s (ASign symbols.CloseBrace) h (λ ps g. refl) (λ ps g. tt)

pub listing_closes : (l : Listed) (d : ℕ) (s : List Token) → seen s ≡ seens.Symbol (closer l) → Chosen (alts.listing_closes {l = l}) d s
listing_closes parts.Aliases d s h = chosen_at (alts.listing_closes {l = parts.Aliases}) d s (ASign symbols.CloseBrace) h (λ ps g. refl) (λ ps g. tt)
listing_closes parts.Fields d s h = chosen_at (alts.listing_closes {l = parts.Fields}) d s (ASign symbols.CloseBrace) h (λ ps g. refl) (λ ps g. tt)
listing_closes parts.EnumValues d s h = chosen_at (alts.listing_closes {l = parts.EnumValues}) d s (ASign symbols.CloseBrace) h (λ ps g. refl) (λ ps g. tt)
listing_closes parts.Parameters d s h = chosen_at (alts.listing_closes {l = parts.Parameters}) d s (ASign symbols.CloseParen) h (λ ps g. refl) (λ ps g. tt)
listing_closes parts.FunctionParameters d s h = chosen_at (alts.listing_closes {l = parts.FunctionParameters}) d s (ASign symbols.CloseParen) h (λ ps g. refl) (λ ps g. tt)
listing_closes parts.HandlerParameters d s h = chosen_at (alts.listing_closes {l = parts.HandlerParameters}) d s (ASign symbols.CloseParen) h (λ ps g. refl) (λ ps g. tt)
listing_closes parts.Arguments d s h = chosen_at (alts.listing_closes {l = parts.Arguments}) d s (ASign symbols.CloseParen) h (λ ps g. refl) (λ ps g. tt)
listing_closes parts.Elements d s h = chosen_at (alts.listing_closes {l = parts.Elements}) d s (ASign symbols.CloseBracket) h (λ ps g. refl) (λ ps g. tt)
listing_closes parts.FieldValues d s h = chosen_at (alts.listing_closes {l = parts.FieldValues}) d s (ASign symbols.CloseBrace) h (λ ps g. refl) (λ ps g. tt)

-- anything but the closing symbol
pub rest_comma : (l : Listed) (d : ℕ) (s : List Token) → (seen s ≡ seens.Symbol (closer l) → ⊥) → Chosen (alts.rest_comma {l = l}) d s
rest_comma l d s unlike =
    chosen_second (alts.rest_closes {l = l}) (alts.rest_comma {l = l}) d s refl refl (λ t r h. no_lead (class_of t.kind) (Sign (closer l)) [] d (not_sign (closer l) s unlike t r h)) (λ ps g. (tt, tt))

took_closes : (l : Listed) (d : ℕ) (s r : List Token) (span : Span) → TookOne (Sign (closer l)) d s r span → seen s ≡ seens.Symbol (closer l) → Took (Rest l) d s r ([], span)
took_closes l d s r span x h = chosen_took (rest_closes l d s h) (took_by (alts.rest_closes {l = l}) (and_one x (end_all d r)))

took_listing : (l : Listed) (d : ℕ) (s r : List Token) (span : Span) → TookOne (Sign (closer l)) d s r span → seen s ≡ seens.Symbol (closer l) → Took (Listing l) d s r ([], span)
took_listing l d s r span x h = chosen_took (listing_closes l d s h) (took_by (alts.listing_closes {l = l}) (and_one x (end_all d r)))

-- what the cursor reads behind an item
by_error : (closing : Symbol) (d : ℕ) (s r : List Token) (e : End Stop) (result : Result (Option Span) (End Stop)) → IsErrAnd result (λ y. y ≡ e)
    → ((l : Listed) → closer l ≡ closing → Stuck (Rest l) d s e) → BehindItem closing d s result r
by_error closing d s r e result h k = joining.by_error (λ z. BehindItem closing d s z r) e result h k

stuck_closes : (l : Listed) (d : ℕ) (s : List Token) (e : End Stop) → StuckOne (Sign (closer l)) d s e → seen s ≡ seens.Symbol (closer l) → Stuck (Rest l) d s e
stuck_closes l d s e x h = chosen_stuck (rest_closes l d s h) (at_one x)

pub behind_end_error : (closing : Symbol) (d : ℕ) (s r : List Token) (e : End Stop) (result : Result (Option Span) (End Stop)) → IsErrAnd result (λ y. y ≡ e)
    → StuckOne (Sign closing) d s e × (seen s ≡ seens.Symbol closing) → BehindItem closing d s result r
behind_end_error closing d s r e result h x =
    by_error closing d s r e result h (λ l k. let P : Symbol → Type 0 = λ z. StuckOne (Sign z) d s e × (seen s ≡ seens.Symbol z) → Stuck (Rest l) d s e in subst P k (λ y. stuck_closes l d s e y.0 y.1) x)

closes_some : (closing : Symbol) (d : ℕ) (s r : List Token) (o : Option Span) (span : Span) → o ≡ Some span → Closes closing d s (Ok o) r → TookOne (Sign closing) d s r span
closes_some closing d s r o span e x = let P : Option Span → Type 0 = λ z. Closes closing d s (Ok z) r in subst P e x

pub closes_none : (closing : Symbol) (d : ℕ) (s r : List Token) (o : Option Span) → ((span : Span) → o ≡ Some span → ⊥) → Closes closing d s (Ok o) r → (r ≡ s) × (seen s ≡ seens.Symbol closing → ⊥)
closes_none closing d s r (Some span) unlike x = absurd (unlike span refl)
closes_none closing d s r None unlike x = x

pub behind_end : (closing : Symbol) (d : ℕ) (s r : List Token) (o : Option Span) (span : Span) → o ≡ Some span → Closes closing d s (Ok o) r
    → (l : Listed) → closer l ≡ closing → Took (Rest l) d s r ([], span)
behind_end closing d s r o span e x l k =
    let y = closes_some closing d s r o span e x in
    let P : Symbol → Type 0 = λ z. TookOne (Sign z) d s r span → seen s ≡ seens.Symbol z → Took (Rest l) d s r ([], span) in
    subst P k (took_closes l d s r span) y (took_sign_seen closing d s r span y)

pub behind_comma_error : (closing : Symbol) (d : ℕ) (s r : List Token) (e : End Stop) (result : Result (Option Span) (End Stop)) → IsErrAnd result (λ y. y ≡ e)
    → (seen s ≡ seens.Symbol closing → ⊥) → StuckOne (Sign symbols.Comma) d s e → BehindItem closing d s result r
behind_comma_error closing d s r e result h unlike x =
    by_error closing d s r e result h (λ l k. chosen_stuck (rest_comma l d s (λ g. unlike (g ∙ ap seens.Symbol k))) (at_one x))

listing_after : (l : Listed) (d : ℕ) (s m r : List Token) (comma span : Span) → (seen s ≡ seens.Symbol (closer l) → ⊥) → TookOne (Sign symbols.Comma) d s m comma
    → TookOne (Sign (closer l)) d m r span → Took (Rest l) d s r ([], span)
listing_after l d s m r comma span unlike x y =
    chosen_took (rest_comma l d s unlike) (took_by (alts.rest_comma {l = l}) (and_one x (and_same (took_listing l d m r span y (took_sign_seen (closer l) d m r span y)) (end_all d r))))

listing_stuck : (l : Listed) (d : ℕ) (s m : List Token) (comma : Span) (e : End Stop) → (seen s ≡ seens.Symbol (closer l) → ⊥) → TookOne (Sign symbols.Comma) d s m comma
    → StuckOne (Sign (closer l)) d m e → seen m ≡ seens.Symbol (closer l) → Stuck (Rest l) d s e
listing_stuck l d s m comma e unlike x y h =
    chosen_stuck (rest_comma l d s unlike) (past_one x (at_same (chosen_stuck (listing_closes l d m h) (at_one y))))

pub behind_comma : (closing : Symbol) (d : ℕ) (s m r : List Token) (comma : Span) (result : Result (Option Span) (End Stop)) → (seen s ≡ seens.Symbol closing → ⊥)
    → TookOne (Sign symbols.Comma) d s m comma → Closes closing d m result r → BehindItem closing d s result r
behind_comma closing d s m r comma (Ok (Some span)) unlike x y =
    λ l k. listing_after l d s m r comma span (λ g. unlike (g ∙ ap seens.Symbol k)) x (let P : Symbol → Type 0 = λ z. TookOne (Sign z) d m r span in subst P (sym k) y)
behind_comma closing d s m r comma (Ok None) unlike x y =
    let P : List Token → Type 0 = λ z. (seen z ≡ seens.Symbol closing → ⊥) × ((span : Span) × TookOne (Sign symbols.Comma) d s z span) in
    let w = subst P (sym y.0) (y.1, (comma, x)) in (unlike, w.0, w.1)
behind_comma closing d s m r comma (Err e) unlike x y =
    λ l k. listing_stuck l d s m comma e (λ g. unlike (g ∙ ap seens.Symbol k)) x (let P : Symbol → Type 0 = λ z. StuckOne (Sign z) d m e in subst P (sym k) y.0) (y.1 ∙ ap seens.Symbol (sym k))

pub behind_none_error : (closing : Symbol) (d : ℕ) (s r0 r : List Token) (o : Option Span) (e : End Stop) (result : Result (Option Span) (End Stop)) → ((span : Span) → o ≡ Some span → ⊥)
    → Closes closing d s (Ok o) r0 → IsErrAnd result (λ y. y ≡ e) → StuckOne (Sign symbols.Comma) d r0 e → BehindItem closing d s result r
behind_none_error closing d s r0 r o e result none y h x =
    let k = closes_none closing d s r0 o none y in
    let P : List Token → Type 0 = λ z. StuckOne (Sign symbols.Comma) d z e in
    behind_comma_error closing d s r e result h k.1 (subst P k.0 x)

pub behind_none : (closing : Symbol) (d : ℕ) (s r0 m r : List Token) (o : Option Span) (comma : Span) (result : Result (Option Span) (End Stop)) → ((span : Span) → o ≡ Some span → ⊥)
    → Closes closing d s (Ok o) r0 → TookOne (Sign symbols.Comma) d r0 m comma → Closes closing d m result r → BehindItem closing d s result r
behind_none closing d s r0 m r o comma result none y x z =
    let k = closes_none closing d s r0 o none y in
    let P : List Token → Type 0 = λ z. TookOne (Sign symbols.Comma) d z m comma in
    behind_comma closing d s m r comma result k.1 (subst P k.0 x) z
