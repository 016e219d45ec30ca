-- What reading gives is ready to be written.
use Rattle.std.proofs.Common.{◌≡◌, ℕ, ◌^◌, ◌<◌, Bool, true, false, cond, Option, Some, None, List, [], ◌∷◌, ◌++◌, length, get_or, refl, sym, ap, ◌∙◌, subst, arith}
use Rattle.std.specs.Char.{is_ascii_hexdigit}
use Rattle.std.specs.List.{list_all}
use Rattle.std.specs.Option.{option_map}
use Rattle.std.specs.Str.{IsUtf8}
use Rattle.std.specs.Str.Parse.{digits_value}
use Rattle.std.proofs.lemmas.Int.Digits.{digits_value-lt}
use Rattle.slint_literals.specs.declared.numbers.Number.{Number}
use Rattle.slint_literals.specs.declared.strings.Look.{Look}
use Rattle.slint_literals.specs.declared.strings.Look.TheVariants as looks
use Rattle.slint_literals.specs.Colours.{eight_digits, colour_value}
use Rattle.slint_literals.specs.Numbers.{number_value}
use Rattle.slint_literals.specs.Strings.{text_look}
use Rattle.slint_literals.proofs.Hex.{eight_hex, all_hex}
use Rattle.slint_literals.proofs.ReadNumbers.{value_ready}
use Rattle.slint_literals.proofs.RunTexts.{run_utf8}
use Rattle.slint_lexer.specs.declared.classes.Class.{Class}
use Rattle.slint_lexer.specs.declared.classes.Class.TheVariants.{Blank, Digit, Hash, Quote, Close, Slash, Word, Other}
use Rattle.slint_lexer.specs.declared.classes.Second.{Second}
use Rattle.slint_lexer.specs.declared.classes.Second.TheVariants.{Block, Line, Neither}
use Rattle.slint_lexer.specs.declared.marks.Mark.{Mark}
use Rattle.slint_lexer.specs.declared.tokens.Symbol.{Symbol}
use Rattle.slint_lexer.specs.declared.tokens.Symbol.TheVariants as symbols
use Rattle.slint_lexer.specs.declared.tokens.Token.{Token}
use Rattle.slint_lexer.specs.declared.tokens.TokenKind.{TokenKind}
use Rattle.slint_lexer.specs.declared.tokens.TokenKind.TheVariants as kinds
use Rattle.slint_lexer.specs.Lexing.{Lexes, stop, blank, token, ends_hole, behind_token, behind_mark, IsLexing}
use Rattle.slint_lexer.specs.Pieces.{Apart, Tok, number_what, colour_what, EndsText, SpellsText, SpellsSymbol, SpellsSlash, SpellsClose, SpellsAs, Spells, class_of, second_of}
use Rattle.slint_lexer.specs.Spelled.{ReadySymbol, Ready, Fits, kinds_of}
use Rattle.slint_lexer.specs.Symbols.{symbol_text}

number_ready : (ends : Bool) (value : Option Number) (text : List ℕ) (k : TokenKind) → number_value text ≡ value → Tok k ≡ number_what value → Ready ends k
number_ready ends None text k e h = cc
number_ready ends (Some n) text k e h = let same : k ≡ kinds.Number n = cc in subst (λ x. Ready ends x) (sym same) (value_ready text n e)

eight_by : (eight : List ℕ) (c : ℕ) → list_all is_ascii_hexdigit eight ≡ true → length eight ≡ 8 → Some (digits_value 16 eight) ≡ Some c → c < 2 ^ 32
eight_by eight c h n e =
    let same : digits_value 16 eight ≡ c = cc in
    let below = digits_value-lt 16 eight (all_hex eight h) in
    let power : 16 ^ length eight ≡ 2 ^ 32 = ap (λ k. 16 ^ k) n in
    omega arith

colour_small : (digits : List ℕ) (all_digits : Bool) (eight : Option (List ℕ)) (c : ℕ) → list_all is_ascii_hexdigit digits ≡ all_digits → eight_digits digits ≡ eight → cond all_digits (option_map (digits_value 16) eight) None ≡ Some c → c < 2 ^ 32
colour_small digits false eight c h e k = cc
colour_small digits true None c h e k = cc
colour_small digits true (Some eight) c h e k = let hex = eight_hex digits eight h e in eight_by eight c hex.0 hex.1 k

colour_ready : (ends : Bool) (digits : List ℕ) (value : Option ℕ) (k : TokenKind) → colour_value digits ≡ value → Tok k ≡ colour_what value → Ready ends k
colour_ready ends digits None k e h = cc
colour_ready ends digits (Some c) k e h =
    let same : k ≡ kinds.Colour c = cc in
    subst (λ x. Ready ends x) (sym same) (colour_small digits (list_all is_ascii_hexdigit digits) (eight_digits digits) c refl refl e)

text_ready : (first ends : Bool) (text : List ℕ) (look : Look) (x r : List ℕ) (k : TokenKind) → (first ≡ false → ends ≡ true) → IsUtf8 text → EndsText first text look x (Tok k) r → Ready ends k
text_ready true ends text looks.Quote x r k f u h = let e : Tok k ≡ Tok (kinds.Str text) = h.1 in let same : k ≡ kinds.Str text = cc in subst (λ y. Ready ends y) (sym same) u
text_ready false ends text looks.Quote x r k f u h = let e : Tok k ≡ Tok (kinds.Tail text) = h.1 in let same : k ≡ kinds.Tail text = cc in subst (λ y. Ready ends y) (sym same) (f refl, u)
text_ready true ends text looks.Hole x r k f u h = let e : Tok k ≡ Tok (kinds.Head text) = h.1 in let same : k ≡ kinds.Head text = cc in subst (λ y. Ready ends y) (sym same) u
text_ready false ends text looks.Hole x r k f u h = let e : Tok k ≡ Tok (kinds.Mid text) = h.1 in let same : k ≡ kinds.Mid text = cc in subst (λ y. Ready ends y) (sym same) (f refl, u)
text_ready first ends text (looks.Plain n) x r k f u h = absurd h
text_ready first ends text (looks.Escape c n) x r k f u h = absurd h
text_ready first ends text (looks.BadEscape n) x r k f u h = absurd h
text_ready first ends text looks.NotUtf8 x r k f u h = absurd h
text_ready first ends text looks.End x r k f u h = absurd h

string_ready : (first ends : Bool) (s r : List ℕ) (k : TokenKind) → (first ≡ false → ends ≡ true) → SpellsText first s (Tok k) r → Ready ends k
string_ready first ends s r k f h = text_ready first ends h.0 (text_look h.1) h.1 r k f (run_utf8 s h.0 h.1 h.2) h.3

symbol_ready : (ends : Bool) (k : Symbol) → (k ≡ symbols.CloseBrace → ends ≡ false) → ReadySymbol ends k
symbol_ready ends symbols.CloseBrace h = h refl
symbol_ready ends k h = tt

symbols_ready : (ends : Bool) (s r : List ℕ) (k : TokenKind) → ((x : List ℕ) → s ≡ 125 ∷ x → ⊥) → SpellsSymbol s (Tok k) r → Ready ends k
symbols_ready ends s r k no_brace h =
    let e : Tok k ≡ Tok (kinds.Symbol h.0) = h.2 in
    let same : k ≡ kinds.Symbol h.0 = cc in
    subst (λ y. Ready ends y) (sym same) (symbol_ready ends h.0 (λ is. absurd (no_brace r (h.1 ∙ ap (λ j. symbol_text j ++ r) is))))

slash_no_brace : (s x : List ℕ) → 47 ∷ s ≡ 125 ∷ x → ⊥
slash_no_brace s x e = let first : ◌≡◌ {A = ℕ} 47 125 = ap (λ t. get_or t 0 0) e in omega arith

slash_ready : (c : Second) (ends : Bool) (s r : List ℕ) (k : TokenKind) → SpellsSlash c s (Tok k) r → Ready ends k
slash_ready Block ends s r k h = let e : Tok k ≡ Apart = h.1 in cc
slash_ready Line ends s r k h = let e : Tok k ≡ Apart = h.2 in cc
slash_ready Neither ends s r k h = symbols_ready ends (47 ∷ s) r k (λ x e. slash_no_brace s x e) h

close_ready : (ends : Bool) (s r : List ℕ) (k : TokenKind) → SpellsClose ends s (Tok k) r → Ready ends k
close_ready true s r k h = string_ready false true s r k (λ e. refl) h
close_ready false s r k h = let e : Tok k ≡ Tok (kinds.Symbol symbols.CloseBrace) = h.1 in let same : k ≡ kinds.Symbol symbols.CloseBrace = cc in subst (λ y. Ready false y) (sym same) refl

no_brace : (b : ℕ) (s x : List ℕ) → class_of (b ∷ s) ≡ Other → b ∷ s ≡ 125 ∷ x → ⊥
no_brace b s x c e = let other : Close ≡ Other = ap class_of (sym e) ∙ c in cc

ready_as : (c : Class) (ends : Bool) (b : ℕ) (s r : List ℕ) (k : TokenKind) → class_of (b ∷ s) ≡ c → SpellsAs c ends b s (Tok k) r → Ready ends k
ready_as Blank ends b s r k c h = let e : Tok k ≡ Apart = h.1 in cc
ready_as Digit ends b s r k c h = number_ready ends (number_value (b ∷ h.0)) (b ∷ h.0) k refl h.3
ready_as Hash ends b s r k c h = colour_ready ends h.0 (colour_value h.0) k refl h.3
ready_as Quote ends b s r k c h = string_ready true ends s r k (λ (e : true ≡ false). cc) h
ready_as Close ends b s r k c h = close_ready ends s r k h
ready_as Slash ends b s r k c h = slash_ready (second_of s) ends s r k h
ready_as Word ends b s r k c h =
    let e : Tok k ≡ Tok (kinds.Id _) = h.3 in
    let same : k ≡ kinds.Id _ = cc in
    subst (λ y. Ready ends y) (sym same) (h.0, h.2, refl)
ready_as Other ends b s r k c h = symbols_ready ends (b ∷ s) r k (λ x e. no_brace b s x c e) h

-- a token that reading gives is ready
pub ready_of : (ends : Bool) (s r : List ℕ) (k : TokenKind) → Spells ends s (Tok k) r → Ready ends k
ready_of ends [] r k h = absurd h
ready_of ends (b ∷ s) r k h = ready_as (class_of (b ∷ s)) ends b s r k refl h

pub lexes_fit : (file n : ℕ) (held now : List Mark) (s r : List ℕ) (ts : List Token) → Lexes file n held s ts now r → Fits held (kinds_of ts) now
lexes_fit file n held now s r ts (stop _ _) = refl
lexes_fit file n held now s r ts (blank _ _ _ x _ _ f others) = lexes_fit file n held now x r ts others
lexes_fit file n held now s r ts (token _ _ _ x _ k us f others) = (ready_of (ends_hole held) s x k f.spells, lexes_fit file n (behind_token k held) now x r us others)

pub lexing_fits : (file : ℕ) (bytes : List ℕ) (ts : List Token) → IsLexing file bytes ts → (now : List Mark) × Fits [] (kinds_of ts) now
lexing_fits file bytes ts h = (h.0, lexes_fit file (length bytes) [] h.0 (behind_mark bytes) [] ts h.1)
