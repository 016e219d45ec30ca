-- What hex digits write.
use Rattle.std.proofs.Common.{◌≡◌, ℕ, ◌^◌, ◌<◌, ◌≤◌, Bool, true, false, cond, List, [], ◌∷◌, length, get_or, Some, None, Result, Ok, Err, ◌&&◌, refl, sym, ap, ◌∙◌, subst, arith, lit<}
use Rattle.std.specs.Char.{is_ascii_hexdigit, digit_value}
use Rattle.std.specs.List.{list_all, take_while}
use Rattle.std.specs.Option.{option_map}
use Rattle.std.specs.Str.{IsAscii}
use Rattle.std.specs.Str.Parse.{AllDigits, IsNumeral, digits_value, ParsesUnsigned, without_leading_plus}
use Rattle.std.proofs.Math.Nat.{pow-le-pow_right}
use Rattle.std.proofs.lemmas.Bool.Decides.{nat_tests}
use Rattle.std.proofs.lemmas.Int.Digits.{digits_value-lt}
use Rattle.std.proofs.lemmas.List.Folds.{list_all-append}
use Rattle.std.proofs.lemmas.List.Sums.{take_while-cons}
use Rattle.std.proofs.lemmas.Str.Ascii.{IsAscii-cons, IsAscii-nil}
use Rattle.std.proofs.lemmas.Str.Parse.{without_leading_plus_none}
use Rattle.slint_literals.specs.Colours.{eight_digits, colour_value}
use Rattle.slint_literals.proofs.Choices.{both}

hex_low : (c : ℕ) → is_ascii_hexdigit c ≡ true → digit_value c < 16
hex_low c h = grind (arith, nat_tests)

hex_ascii : (c : ℕ) → is_ascii_hexdigit c ≡ true → c < 128
hex_ascii c h = grind (arith, nat_tests)

hex_no_plus : (c : ℕ) → is_ascii_hexdigit c ≡ true → c ≡ 43 → ⊥
hex_no_plus c h e = grind (arith, nat_tests)

pub ascii_hex : (ds : List ℕ) → list_all is_ascii_hexdigit ds ≡ true → IsAscii ds
ascii_hex [] h = IsAscii-nil
ascii_hex (d ∷ ds) h = let parts = both (is_ascii_hexdigit d) (list_all is_ascii_hexdigit ds) h in IsAscii-cons d ds (hex_ascii d parts.0) (ascii_hex ds parts.1)

pub all_hex : (ds : List ℕ) → list_all is_ascii_hexdigit ds ≡ true → AllDigits 16 ds
all_hex [] h = tt
all_hex (d ∷ ds) h = let parts = both (is_ascii_hexdigit d) (list_all is_ascii_hexdigit ds) h in (hex_low d parts.0, all_hex ds parts.1)

no_plus : (ds : List ℕ) → list_all is_ascii_hexdigit ds ≡ true → get_or ds 0 0 ≡ 43 → ⊥
no_plus [] h e = omega arith
no_plus (d ∷ ds) h e = hex_no_plus d (both (is_ascii_hexdigit d) (list_all is_ascii_hexdigit ds) h).0 e

parsed_by : {E : Type 0} (ds : List ℕ) (r : Result ℕ E) → IsNumeral 16 ds → digits_value 16 ds < 2 ^ 32 → without_leading_plus ds ≡ ds → ParsesUnsigned 32 16 ds r → r ≡ Ok (digits_value 16 ds)
parsed_by ds (Ok x) n p e h = ap Ok (h.1 ∙ ap (digits_value 16) e)
parsed_by ds (Err x) n p e h = absurd (h (rw e (n, p)))

-- what parsing gives
pub hex_parsed : {E : Type 0} (ds text : List ℕ) (r : Result ℕ E) → text ≡ ds → list_all is_ascii_hexdigit ds ≡ true → 0 < length ds → length ds ≤ 8 → ParsesUnsigned 32 16 text r → r ≡ Ok (digits_value 16 ds)
hex_parsed {E} ds text r e h some few p =
    let parsing : ParsesUnsigned 32 16 ds r = subst (λ (t : List ℕ). ParsesUnsigned 32 16 t r) e p in
    let below = digits_value-lt 16 ds (all_hex ds h) in
    let most : 16 ^ length ds ≤ 16 ^ 8 = pow-le-pow_right (lit< tt) few in
    parsed_by ds r (some, all_hex ds h) (omega arith) (without_leading_plus_none ds (no_plus ds h)) parsing

all_kept : (p : ℕ → Bool) (x : ℕ) (xs : List ℕ) (t : Bool) → p x ≡ t → list_all p xs ≡ true → list_all p (cond t (x ∷ xs) []) ≡ true
all_kept p x xs true e h = rw e h
all_kept p x xs false e h = refl

-- what passes at the front passes
pub all_front : (p : ℕ → Bool) (xs : List ℕ) → list_all p (take_while p xs) ≡ true
all_front p [] = refl
all_front p (x ∷ xs) = rw take_while-cons (all_kept p x (take_while p xs) (p x) refl (all_front p xs))

abbrev hex : ℕ → Bool
hex = is_ascii_hexdigit

eight_by : (given eight : List ℕ) → Some given ≡ Some eight → list_all hex given ≡ true → length given ≡ 8 → (list_all hex eight ≡ true) × (length eight ≡ 8)
eight_by given eight e h n = let same : given ≡ eight = cc in (ap (list_all hex) (sym same) ∙ h, ap length (sym same) ∙ n)

-- the eight digits that hex digits stand for are hex digits, and eight
pub eight_hex : (digits eight : List ℕ) → list_all is_ascii_hexdigit digits ≡ true → eight_digits digits ≡ Some eight → (list_all is_ascii_hexdigit eight ≡ true) × (length eight ≡ 8)
eight_hex [] eight h e = cc
eight_hex (r ∷ []) eight h e = cc
eight_hex (r ∷ g ∷ []) eight h e = cc
eight_hex (r ∷ g ∷ b ∷ []) eight h e =
    let x = both (hex r) (hex g && (hex b && true)) h in
    let y = both (hex g) (hex b && true) x.1 in
    eight_by _ eight e (rw x.0 (rw y.0 (rw (both (hex b) true y.1).0 refl))) refl
eight_hex (r ∷ g ∷ b ∷ a ∷ []) eight h e =
    let x = both (hex r) (hex g && (hex b && (hex a && true))) h in
    let y = both (hex g) (hex b && (hex a && true)) x.1 in
    let z = both (hex b) (hex a && true) y.1 in
    eight_by _ eight e (rw x.0 (rw y.0 (rw z.0 (rw (both (hex a) true z.1).0 refl)))) refl
eight_hex (r ∷ s ∷ g ∷ h ∷ b ∷ []) eight k e = cc
eight_hex (r ∷ s ∷ g ∷ h ∷ b ∷ c ∷ []) eight k e = eight_by _ eight e (list_all-append hex (r ∷ s ∷ g ∷ h ∷ b ∷ c ∷ []) (102 ∷ 102 ∷ []) ∙ rw k refl) refl
eight_hex (r ∷ s ∷ g ∷ h ∷ b ∷ c ∷ a ∷ []) eight k e = cc
eight_hex (r ∷ s ∷ g ∷ h ∷ b ∷ c ∷ a ∷ d ∷ []) eight k e = eight_by _ eight e k refl
eight_hex (r ∷ s ∷ g ∷ h ∷ b ∷ c ∷ a ∷ d ∷ o ∷ others) eight k e = cc

-- the colour that hex digits write
pub colour_is : (digits eight : List ℕ) (value : ℕ) → list_all is_ascii_hexdigit digits ≡ true → eight_digits digits ≡ Some eight → value ≡ digits_value 16 eight → Some value ≡ colour_value digits
colour_is digits eight value h e v =
    ap Some v ∙ sym (ap (option_map (digits_value 16)) e) ∙ sym (ap (λ t. cond t (option_map (digits_value 16) (eight_digits digits)) None) h)
