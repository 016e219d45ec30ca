-- That a printed text is read as the text.
use Rattle.std.proofs.Common.{◌≡◌, ℕ, zero, suc, ◌+◌, ◌*◌, ◌/◌, ◌%◌, ◌<◌, ◌≤◌, Bool, true, false, cond, eqb, ltb, ◌||◌, inl, inr, Some, List, [], ◌∷◌, ◌++◌, length, take, drop, get_or, refl, sym, ap, ◌∙◌, subst, arith}
use Rattle.std.proofs.Math.Utf8.{scalar, scalars, encode, encodes, low_scalar}
use Rattle.std.specs.Char.{is_ascii_hexdigit, digit_char, digit_value}
use Rattle.std.specs.List.{flat_map, prefix_len}
use Rattle.std.specs.Str.{IsUtf8}
use Rattle.std.proofs.lemmas.Bool.{ne_eqb, eqb-true, cases_lt, ltb-true, ltb-false, le-ltb}
use Rattle.std.proofs.lemmas.Bool.Decides.{nat_tests}
use Rattle.std.proofs.lemmas.List.{append_assoc, append-nil, take_at, drop_at}
use Rattle.std.proofs.lemmas.Nat.{div-add-mod'}
use Rattle.std.proofs.lemmas.Str.{encode_ascii, inside_one, digit_value-digit_char}
use Rattle.slint_literals.specs.declared.strings.Look.TheVariants.{Plain, Escape}
use Rattle.slint_literals.specs.Characters.{char_len}
use Rattle.slint_literals.specs.Printed.{hexadecimal, printed_byte, printed_text}
use Rattle.slint_literals.specs.Steps.{Steps, still, onward}
use Rattle.slint_literals.specs.Strings.{scalar_of, braced_char, unicode_escape, plain_look, text_look, behind_look, text_step}
use Rattle.slint_literals.proofs.Chars.{char_len-encode, bounded}
use Rattle.slint_literals.proofs.Choices.{both}

pub flat_map-append : (f : ℕ → List ℕ) (xs ys : List ℕ) → flat_map f (xs ++ ys) ≡ flat_map f xs ++ flat_map f ys
flat_map-append f [] ys = refl
flat_map-append f (x ∷ xs) ys = ap (λ t. f x ++ t) (flat_map-append f xs ys) ∙ sym (append_assoc (f x) (flat_map f xs) (flat_map f ys))

-- a character that stands for itself

plain_by : (n : ℕ) → 0 < n → plain_look n ≡ Plain n
plain_by zero h = absurd (omega arith)
plain_by (suc n) h = refl

look_by : (b : ℕ) (s : List ℕ) → eqb b 34 ≡ false → eqb b 92 ≡ false → text_look (b ∷ s) ≡ plain_look (char_len (b ∷ s))
look_by b s h k = rw h (rw k refl)

pub plain_front : (c b : ℕ) (s r : List ℕ) → scalar c ≡ true → b ∷ s ≡ encode c ++ r → eqb b 34 ≡ false → eqb b 92 ≡ false → text_look (b ∷ s) ≡ Plain (length (encode c))
plain_front c b s r h e p q =
    let count : char_len (b ∷ s) ≡ length (encode c) = ap char_len e ∙ char_len-encode c r h in
    look_by b s p q ∙ ap plain_look count ∙ plain_by (length (encode c)) (omega (arith, bounded c))

pub plain_step : (v : List ℕ) (c b : ℕ) (s r : List ℕ) → scalar c ≡ true → b ∷ s ≡ encode c ++ r → eqb b 34 ≡ false → eqb b 92 ≡ false → text_step (v, b ∷ s) ≡ Some (v ++ encode c, r)
plain_step v c b s r h e p q =
    let n = length (encode c) in
    let front : take n (b ∷ s) ≡ encode c = ap (take n) e ∙ take_at (encode c) r n refl in
    let behind : drop n (b ∷ s) ≡ r = ap (drop n) e ∙ drop_at (encode c) r n refl in
    ap (λ l. behind_look l v (b ∷ s)) (plain_front c b s r h e p q) ∙ ap (λ t. Some (v ++ t, drop n (b ∷ s))) front ∙ ap (λ t. Some (v ++ encode c, t)) behind

-- a character by its code in braces

digit_hex : (d : ℕ) → d < 16 → is_ascii_hexdigit (digit_char d) ≡ true
digit_hex d h = grind (arith, nat_tests)

one_digit : (d : ℕ) (s : List ℕ) → d < 16 → prefix_len is_ascii_hexdigit (digit_char d ∷ 125 ∷ s) ≡ 1
one_digit d s h = rw (digit_hex d h) refl

two_digits : (d e : ℕ) (s : List ℕ) → d < 16 → e < 16 → prefix_len is_ascii_hexdigit (digit_char d ∷ digit_char e ∷ 125 ∷ s) ≡ 2
two_digits d e s h k = rw (digit_hex d h) (rw (digit_hex e k) refl)

small_scalar : (c : ℕ) → c < 256 → scalar_of c ≡ Some c
small_scalar c h = rw (low_scalar c (omega arith)) refl

one_braced : (d : ℕ) (s : List ℕ) → d < 16 → braced_char 1 (digit_char d ∷ 125 ∷ s) ≡ Some d
one_braced d s h =
    let code : 0 + digit_value (digit_char d) ≡ d = omega (arith, digit_value-digit_char d (omega arith)) in
    ap scalar_of code ∙ small_scalar d (omega arith)

two_braced : (d e : ℕ) (s : List ℕ) → d < 16 → e < 16 → braced_char 2 (digit_char d ∷ digit_char e ∷ 125 ∷ s) ≡ Some (d * 16 + e)
two_braced d e s h k =
    let code : (0 + digit_value (digit_char d)) * 16 + digit_value (digit_char e) ≡ d * 16 + e = omega (arith, digit_value-digit_char d (omega arith), digit_value-digit_char e (omega arith)) in
    ap scalar_of code ∙ small_scalar (d * 16 + e) (omega arith)

one_step : (v : List ℕ) (d : ℕ) (s : List ℕ) → d < 16 → text_step (v, 92 ∷ 117 ∷ 123 ∷ digit_char d ∷ 125 ∷ s) ≡ Some (v ++ encode d, s)
one_step v d s h =
    let rest = digit_char d ∷ 125 ∷ s in
    let found : unicode_escape (prefix_len is_ascii_hexdigit rest) (braced_char (prefix_len is_ascii_hexdigit rest) rest) ≡ Escape d 5 =
    ap (λ n. unicode_escape n (braced_char n rest)) (one_digit d s h) ∙ ap (unicode_escape 1) (one_braced d s h) in
    ap (λ l. behind_look l v (92 ∷ 117 ∷ 123 ∷ rest)) found

two_step : (v : List ℕ) (d e : ℕ) (s : List ℕ) → d < 16 → e < 16 → text_step (v, 92 ∷ 117 ∷ 123 ∷ digit_char d ∷ digit_char e ∷ 125 ∷ s) ≡ Some (v ++ encode (d * 16 + e), s)
two_step v d e s h k =
    let rest = digit_char d ∷ digit_char e ∷ 125 ∷ s in
    let found : unicode_escape (prefix_len is_ascii_hexdigit rest) (braced_char (prefix_len is_ascii_hexdigit rest) rest) ≡ Escape (d * 16 + e) 6 =
    ap (λ n. unicode_escape n (braced_char n rest)) (two_digits d e s h k) ∙ ap (unicode_escape 2) (two_braced d e s h k) in
    ap (λ l. behind_look l v (92 ∷ 117 ∷ 123 ∷ rest)) found

code_by : (t : Bool) (v : List ℕ) (b : ℕ) (s : List ℕ) → ltb b 16 ≡ t → b < 256
    → text_step (v, 92 ∷ 117 ∷ 123 ∷ ((cond t (digit_char b ∷ []) (digit_char (b / 16) ∷ digit_char (b % 16) ∷ []) ++ 125 ∷ []) ++ s)) ≡ Some (v ++ encode b, s)
code_by true v b s e h = one_step v b s (ltb-true b 16 e)
code_by false v b s e h =
    let more : 16 ≤ b = ltb-false b 16 e in
    let whole : b / 16 * 16 + b % 16 ≡ b = div-add-mod' b 16 in
    two_step v (b / 16) (b % 16) s (omega arith) (omega arith) ∙ ap (λ x. Some (v ++ encode x, s)) whole

-- each ASCII character

byte_by : (p q r t : Bool) (v : List ℕ) (b : ℕ) (s : List ℕ) → b < 128 → eqb b 34 ≡ p → eqb b 92 ≡ q → eqb b 10 ≡ r
    → text_step (v, cond p (92 ∷ 34 ∷ []) (cond q (92 ∷ 92 ∷ []) (cond r (92 ∷ 110 ∷ []) (cond t (92 ∷ 117 ∷ 123 ∷ (hexadecimal b ++ 125 ∷ [])) (b ∷ [])))) ++ s) ≡ Some (v ++ encode b, s)
byte_by true q r t v b s h e f g = ap (λ x. Some (v ++ encode x, s)) (sym (eqb-true b 34 e))
byte_by false true r t v b s h e f g = ap (λ x. Some (v ++ encode x, s)) (sym (eqb-true b 92 f))
byte_by false false true t v b s h e f g = ap (λ x. Some (v ++ encode x, s)) (sym (eqb-true b 10 g))
byte_by false false false true v b s h e f g = code_by (ltb b 16) v b s refl (omega arith)
byte_by false false false false v b s h e f g = plain_step v b b s s (low_scalar b (omega arith)) (ap (λ t. t ++ s) (sym (encode_ascii b h))) e f

low_step : (v : List ℕ) (b : ℕ) (s : List ℕ) → b < 128 → text_step (v, printed_byte b ++ s) ≡ Some (v ++ encode b, s)
low_step v b s h = byte_by (eqb b 34) (eqb b 92) (eqb b 10) (ltb b 32 || eqb b 127) v b s h refl refl refl

-- each other character

high_byte : (b : ℕ) → 128 ≤ b → printed_byte b ≡ b ∷ []
high_byte b h = rw (ne_eqb b 34 (λ e. omega arith)) (rw (ne_eqb b 92 (λ e. omega arith)) (rw (ne_eqb b 10 (λ e. omega arith)) (rw (le-ltb b 32 (omega arith)) (rw (ne_eqb b 127 (λ e. omega arith)) refl))))

high_text : (bs : List ℕ) → ((k : ℕ) → k < length bs → 128 ≤ get_or bs k 0) → printed_text bs ≡ bs
high_text [] h = refl
high_text (b ∷ bs) h =
    ap (λ t. t ++ printed_text bs) (high_byte b (h 0 (omega arith))) ∙ ap (λ t. b ∷ t) (high_text bs (λ k p. h (suc k) (omega arith)))

pub high_bytes : (c : ℕ) → 128 ≤ c → (k : ℕ) → k < length (encode c) → 128 ≤ get_or (encode c) k 0
high_bytes c h k p = elim (cases_lt (get_or (encode c) k 0) 128) [
  | inl less ↦ let same : c ≡ get_or (encode c) k 0 = inside_one c [] (encode c) k (sym (append-nil (encode c))) p less in absurd (omega arith)
  | inr most ↦ most
]

high_by : (v : List ℕ) (c : ℕ) (bs s : List ℕ) → scalar c ≡ true → bs ≡ encode c → 128 ≤ c → text_step (v, bs ++ s) ≡ Some (v ++ encode c, s)
high_by v c [] s h e p = let counts = ap length e in absurd (omega (arith, bounded c))
high_by v c (b ∷ bs) s h e p =
    let first : 128 ≤ get_or (encode c) 0 0 = high_bytes c p 0 (omega (arith, bounded c)) in
    let first_is : b ≡ get_or (encode c) 0 0 = ap (λ t. get_or t 0 0) e in
    plain_step v c b (bs ++ s) s h (ap (λ t. t ++ s) e) (ne_eqb b 34 (λ w. omega arith)) (ne_eqb b 92 (λ w. omega arith))

-- a printed character is read as the character
char_step : (v : List ℕ) (c : ℕ) (s : List ℕ) → scalar c ≡ true → text_step (v, printed_text (encode c) ++ s) ≡ Some (v ++ encode c, s)
char_step v c s h = elim (cases_lt c 128) [
  | inl low ↦ ap (λ t. text_step (v, printed_text t ++ s)) (encode_ascii c low) ∙ ap (λ t. text_step (v, t ++ s)) (append-nil (printed_byte c)) ∙ low_step v c s low
  | inr high ↦ ap (λ t. text_step (v, t ++ s)) (high_text (encode c) (high_bytes c high)) ∙ high_by v c (encode c) s h refl high
]

printed_chars : (cs : List ℕ) → scalars cs ≡ true → (v s : List ℕ) → Steps text_step (v, printed_text (encodes cs) ++ s) (v ++ encodes cs, s)
printed_chars [] h v s = subst (λ t. Steps text_step (v, s) (t, s)) (sym (append-nil v)) (still (v, s))
printed_chars (c ∷ cs) h v s =
    let parts = both (scalar c) (scalars cs) h in
    let behind = printed_text (encodes cs) ++ s in
    let whole : printed_text (encode c) ++ behind ≡ printed_text (encodes (c ∷ cs)) ++ s =
    sym (append_assoc (printed_text (encode c)) (printed_text (encodes cs)) s) ∙ ap (λ t. t ++ s) (sym (flat_map-append printed_byte (encode c) (encodes cs))) in
    let others = printed_chars cs parts.1 (v ++ encode c) s in
    subst (λ t. Steps text_step (v, t) (v ++ encodes (c ∷ cs), s)) whole
    (onward (v, printed_text (encode c) ++ behind) (v ++ encode c, behind) (v ++ encodes (c ∷ cs), s) (char_step v c behind parts.0)
    (subst (λ t. Steps text_step (v ++ encode c, behind) (t, s)) (append_assoc v (encode c) (encodes cs)) others))

-- a printed text, whatever stands before and behind it, is read as the text
pub printed_reads : (text before behind : List ℕ) → IsUtf8 text → Steps text_step (before, printed_text text ++ behind) (before ++ text, behind)
printed_reads text before behind h =
    subst (λ t. Steps text_step (before, printed_text t ++ behind) (before ++ t, behind)) h.1.1 (printed_chars h.0 h.1.0 before behind)
