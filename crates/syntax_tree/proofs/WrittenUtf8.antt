-- What is written of tokens is UTF-8 where their names and texts are.
use Rattle.std.proofs.Common.{◌≡◌, ℕ, zero, suc, ◌/◌, ◌%◌, ◌^◌, ◌<◌, ◌≤◌, Bool, true, false, cond, eqb, ltb, ◌&&◌, List, [], ◌∷◌, ◌++◌, codes, unsigned_abs, decimal, refl, sym, subst, arith}
use Rattle.std.specs.Prelude.{⊤}
use Rattle.std.specs.Char.{digit_char}
use Rattle.std.specs.Fmt.{digits, digits_onto, digit_glyph}
use Rattle.std.specs.Str.{IsUtf8}
use Rattle.std.proofs.lemmas.Bool.{ltb-true}
use Rattle.std.proofs.lemmas.Bool.Decides.{nat_tests}
use Rattle.std.proofs.lemmas.Nat.{mod_below}
use Rattle.std.proofs.lemmas.Str.{IsUtf8-append, IsUtf8-nil}
use Rattle.slint_literals.specs.declared.numbers.Number.{Number}
use Rattle.slint_literals.specs.declared.numbers.Number.TheVariants as numbers
use Rattle.slint_literals.specs.Printed.{printed_text}
use Rattle.slint_literals.specs.Spelled.{last_digits, spelled_units, spelled_number, spelled_colour}
use Rattle.slint_literals.proofs.Choices.{both}
use Rattle.slint_lexer.specs.declared.tokens.Symbol.{Symbol}
use Rattle.slint_lexer.specs.declared.tokens.Symbol.TheVariants as symbols
use Rattle.slint_lexer.specs.declared.tokens.TokenKind.{TokenKind}
use Rattle.slint_lexer.specs.declared.tokens.TokenKind.TheVariants as kinds
use Rattle.slint_lexer.specs.Spelled.{spelled, written}
use Rattle.slint_lexer.specs.Symbols.{symbol_text}
use Rattle.syntax_tree.specs.Writes.{Writes}
use Rattle.syntax_tree.proofs.PrintedUtf8.{one, then_one, digit_ascii, printed_utf8}

-- the name or text of a token is UTF-8
abbrev pub IsText : TokenKind → Type 0
IsText (kinds.Id name) = IsUtf8 name
IsText (kinds.Number n) = ⊤
IsText (kinds.Colour c) = ⊤
IsText (kinds.Str text) = IsUtf8 text
IsText (kinds.Head text) = IsUtf8 text
IsText (kinds.Mid text) = IsUtf8 text
IsText (kinds.Tail text) = IsUtf8 text
IsText (kinds.Symbol s) = ⊤

-- all bytes are below 128
abbrev all_low : List ℕ → Bool
all_low [] = true
all_low (b ∷ bs) = ltb b 128 && all_low bs

low_utf8 : (bs : List ℕ) → all_low bs ≡ true → IsUtf8 bs
low_utf8 [] h = IsUtf8-nil
low_utf8 (b ∷ bs) h = let parts = both (ltb b 128) (all_low bs) h in then_one b bs (ltb-true b 128 parts.0) (low_utf8 bs parts.1)

symbol_low : (s : Symbol) → all_low (symbol_text s) ≡ true
symbol_low symbols.At = refl
symbol_low _ = refl

glyph_low : (d : ℕ) → d < 10 → digit_glyph false d < 128
glyph_low d h = grind (arith, nat_tests)

choice_utf8 : (t : Bool) (xs ys : List ℕ) → IsUtf8 xs → IsUtf8 ys → IsUtf8 (cond t xs ys)
choice_utf8 true xs ys x y = x
choice_utf8 false xs ys x y = y

onto_utf8 : (k n : ℕ) (behind : List ℕ) → IsUtf8 behind → IsUtf8 (digits_onto k 10 false n behind)
onto_utf8 zero n behind h = h
onto_utf8 (suc k) n behind h =
    let more = digit_glyph false (n % 10) ∷ behind in
    let x : IsUtf8 more = then_one (digit_glyph false (n % 10)) behind (glyph_low (n % 10) (omega arith)) h in
    choice_utf8 (eqb (n / 10) 0) more (digits_onto k 10 false (n / 10) more) x (onto_utf8 k (n / 10) more x)

decimal_utf8 : (n : ℕ) → IsUtf8 (decimal n)
unfolding digits
decimal_utf8 n = onto_utf8 64 n [] IsUtf8-nil

last_utf8 : (base count n : ℕ) → 0 < base → base ≤ 16 → IsUtf8 (last_digits base count n)
last_utf8 base zero n h k = IsUtf8-nil
last_utf8 base (suc count) n h k =
    let below : n % base < base = mod_below n base h in
    IsUtf8-append (last_digits base count (n / base)) (digit_char (n % base) ∷ []) (last_utf8 base count (n / base) h k) (one (digit_char (n % base)) (digit_ascii (n % base) (omega arith)))

units_utf8 : (places n : ℕ) → IsUtf8 (spelled_units places n)
units_utf8 places n =
    IsUtf8-append (decimal (n / 10 ^ places)) (46 ∷ last_digits 10 places n) (decimal_utf8 (n / 10 ^ places)) (then_one 46 (last_digits 10 places n) (omega arith) (last_utf8 10 places n (omega arith) (omega arith)))

number_utf8 : (n : Number) → IsUtf8 (spelled_number n)
number_utf8 numbers.Zero = low_utf8 (codes "0") refl
number_utf8 (numbers.Int n) = decimal_utf8 (unsigned_abs n)
number_utf8 (numbers.Float n) = units_utf8 6 (unsigned_abs n)
number_utf8 (numbers.Percent n) = IsUtf8-append (spelled_units 6 (unsigned_abs n)) (codes "%") (units_utf8 6 (unsigned_abs n)) (low_utf8 (codes "%") refl)
number_utf8 (numbers.Length n) = IsUtf8-append (spelled_units 3 (unsigned_abs n)) (codes "px") (units_utf8 3 (unsigned_abs n)) (low_utf8 (codes "px") refl)
number_utf8 (numbers.Duration n) = IsUtf8-append (decimal (unsigned_abs n)) (codes "ms") (decimal_utf8 (unsigned_abs n)) (low_utf8 (codes "ms") refl)
number_utf8 (numbers.Angle n) = IsUtf8-append (spelled_units 3 (unsigned_abs n)) (codes "deg") (units_utf8 3 (unsigned_abs n)) (low_utf8 (codes "deg") refl)

colour_utf8 : (c : ℕ) → IsUtf8 (spelled_colour c)
colour_utf8 c = then_one 35 (last_digits 16 8 c) (omega arith) (last_utf8 16 8 c (omega arith) (omega arith))

piece_utf8 : (first : ℕ) (text close : List ℕ) → first < 128 → IsUtf8 text → all_low close ≡ true → IsUtf8 (first ∷ (printed_text text ++ close))
piece_utf8 first text close h t k = then_one first (printed_text text ++ close) h (IsUtf8-append (printed_text text) close (printed_utf8 text t) (low_utf8 close k))

spelled_utf8 : (k : TokenKind) → IsText k → IsUtf8 (spelled k)
spelled_utf8 (kinds.Id name) h = h
spelled_utf8 (kinds.Number n) h = number_utf8 n
spelled_utf8 (kinds.Colour c) h = colour_utf8 c
spelled_utf8 (kinds.Str text) h = piece_utf8 34 text (34 ∷ []) (omega arith) h refl
spelled_utf8 (kinds.Head text) h = piece_utf8 34 text (92 ∷ 123 ∷ []) (omega arith) h refl
spelled_utf8 (kinds.Mid text) h = piece_utf8 125 text (92 ∷ 123 ∷ []) (omega arith) h refl
spelled_utf8 (kinds.Tail text) h = piece_utf8 125 text (34 ∷ []) (omega arith) h refl
spelled_utf8 (kinds.Symbol s) h = low_utf8 (symbol_text s) (symbol_low s)

-- one token, written to the end of a buffer
pub token : {a b : List ℕ} (k : TokenKind) → IsText k → b ≡ a ++ written (k ∷ []) → Writes a b (k ∷ [])
token {a} {b} k h e = record {
  is = e;
  text = λ before. subst IsUtf8 (sym e) (IsUtf8-append a (written (k ∷ [])) before (IsUtf8-append (spelled k) (32 ∷ []) (spelled_utf8 k h) (one 32 (omega arith))));
}
