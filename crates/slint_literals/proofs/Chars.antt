-- The character at the front of bytes.
use Rattle.std.proofs.Common.{◌≡◌, ℕ, zero, suc, ◌+◌, ◌<◌, ◌≤◌, Bool, true, false, cond, eqb, inl, inr, Some, None, List, [], ◌∷◌, ◌++◌, length, take, drop, get_or, refl, sym, ap, ◌∙◌, arith}
use Rattle.std.proofs.Math.Utf8.{scalar, scalars, encode, encodes}
use Rattle.std.proofs.lemmas.Bool.{cases_lt}
use Rattle.std.proofs.lemmas.Bool.Decides.{nat_tests}
use Rattle.std.proofs.lemmas.List.{length-append, length-take-le, take-append-drop, take-append-le, take_at, take_all, drop_at, append_assoc, append-nil}
use Rattle.std.proofs.lemmas.Str.{encode_same, IsUtf8-from_is_utf8, is_utf8-from_IsUtf8, IsUtf8-nil, chars-encodes, len_utf8_bounds, length-encode}
use Rattle.std.specs.Str.{IsUtf8, is_utf8, chars}
use Rattle.slint_literals.specs.Characters.{first_passed, char_len, front_char}
use Rattle.slint_literals.proofs.Choices.{both, tested}

-- n is the least of 1 to 4 that passes, or 0 where none does
record IsLeast (t : ℕ → Bool) (n : ℕ) : Type 0 where
  pub few : n ≤ 4
  pub passes : 0 < n → t n ≡ true
  pub before : (m : ℕ) → 0 < m → m < n → t m ≡ false
  pub nowhere : n ≡ 0 → (m : ℕ) → 0 < m → m ≤ 4 → t m ≡ false

below_two : (t : ℕ → Bool) → t 1 ≡ false → (m : ℕ) → 0 < m → m < 2 → t m ≡ false
below_two t a zero p q = absurd (omega arith)
below_two t a (suc zero) p q = a
below_two t a (suc (suc m)) p q = absurd (omega arith)

below_three : (t : ℕ → Bool) → t 1 ≡ false → t 2 ≡ false → (m : ℕ) → 0 < m → m < 3 → t m ≡ false
below_three t a b zero p q = absurd (omega arith)
below_three t a b (suc zero) p q = a
below_three t a b (suc (suc zero)) p q = b
below_three t a b (suc (suc (suc m))) p q = absurd (omega arith)

below_four : (t : ℕ → Bool) → t 1 ≡ false → t 2 ≡ false → t 3 ≡ false → (m : ℕ) → 0 < m → m < 4 → t m ≡ false
below_four t a b c zero p q = absurd (omega arith)
below_four t a b c (suc zero) p q = a
below_four t a b c (suc (suc zero)) p q = b
below_four t a b c (suc (suc (suc zero))) p q = c
below_four t a b c (suc (suc (suc (suc m)))) p q = absurd (omega arith)

below_five : (t : ℕ → Bool) → t 1 ≡ false → t 2 ≡ false → t 3 ≡ false → t 4 ≡ false → (m : ℕ) → 0 < m → m ≤ 4 → t m ≡ false
below_five t a b c d zero p q = absurd (omega arith)
below_five t a b c d (suc zero) p q = a
below_five t a b c d (suc (suc zero)) p q = b
below_five t a b c d (suc (suc (suc zero))) p q = c
below_five t a b c d (suc (suc (suc (suc zero)))) p q = d
below_five t a b c d (suc (suc (suc (suc (suc m))))) p q = absurd (omega arith)

least : (t : ℕ → Bool) (a b c d : Bool) → t 1 ≡ a → t 2 ≡ b → t 3 ≡ c → t 4 ≡ d → IsLeast t (first_passed a b c d)
least t true b c d p q r s = record { few = omega arith; passes = λ _. p; before = λ m x y. absurd (omega arith); nowhere = λ e. absurd (omega arith) }
least t false true c d p q r s = record { few = omega arith; passes = λ _. q; before = below_two t p; nowhere = λ e. absurd (omega arith) }
least t false false true d p q r s = record { few = omega arith; passes = λ _. r; before = below_three t p q; nowhere = λ e. absurd (omega arith) }
least t false false false true p q r s = record { few = omega arith; passes = λ _. s; before = below_four t p q r; nowhere = λ e. absurd (omega arith) }
least t false false false false p q r s = record { few = omega arith; passes = λ h. absurd (omega arith); before = λ m x y. absurd (omega arith); nowhere = λ _. below_five t p q r s }

abbrev front_is_text : List ℕ → ℕ → Bool
front_is_text s n = is_utf8 (take n s)

shortest : (b : ℕ) (s : List ℕ) → IsLeast (front_is_text (b ∷ s)) (char_len (b ∷ s))
shortest b s = least (front_is_text (b ∷ s)) (is_utf8 (take 1 (b ∷ s))) (is_utf8 (take 2 (b ∷ s))) (is_utf8 (take 3 (b ∷ s))) (is_utf8 (take 4 (b ∷ s))) refl refl refl refl

-- what passes first is the least
least_is : (t : ℕ → Bool) (n k : ℕ) → IsLeast t n → 0 < k → k ≤ 4 → t k ≡ true → ((m : ℕ) → 0 < m → m < k → t m ≡ false) → n ≡ k
least_is t zero k l p q passed fails = let no_k : t k ≡ false = l.nowhere refl k p q in cc
least_is t (suc n) k l p q passed fails = elim (cases_lt (suc n) k) [
  | inl less ↦ let yes_n : t (suc n) ≡ true = l.passes (omega arith) in let no_n : t (suc n) ≡ false = fails (suc n) (omega arith) less in cc
  | inr least_n ↦ elim (cases_lt k (suc n)) [
    | inl less ↦ let no_k : t k ≡ false = l.before k p less in cc
    | inr most ↦ omega arith
  ]
]

-- the character at the front lies within the bytes, and is UTF-8

pub char_len_le : (s : List ℕ) → char_len s ≤ length s
char_len_le [] = omega arith
char_len_le (b ∷ s) =
    let l = shortest b s in
    let n = char_len (b ∷ s) in
    elim (cases_lt (length (b ∷ s)) n) as (λ _. char_len (b ∷ s) ≤ length (b ∷ s)) [
      | inl less ↦
          let fails : is_utf8 (take (length (b ∷ s)) (b ∷ s)) ≡ false = l.before (length (b ∷ s)) (omega arith) less in
          let passes : is_utf8 (take n (b ∷ s)) ≡ true = l.passes (omega arith) in
          let whole : take (length (b ∷ s)) (b ∷ s) ≡ b ∷ s = take_all (length (b ∷ s)) (b ∷ s) (omega arith) in
          let more : take n (b ∷ s) ≡ b ∷ s = take_all n (b ∷ s) (omega arith) in
          let fails_whole : is_utf8 (b ∷ s) ≡ false = ap is_utf8 (sym whole) ∙ fails in
          let passes_whole : is_utf8 (b ∷ s) ≡ true = ap is_utf8 (sym more) ∙ passes in
          cc
      | inr least ↦ omega arith
    ]

utf8_by : (s : List ℕ) (n : ℕ) → (0 < n → is_utf8 (take n s) ≡ true) → IsUtf8 (take n s)
utf8_by s zero h = IsUtf8-nil
utf8_by s (suc n) h = IsUtf8-from_is_utf8 (take (suc n) s) (h (omega arith))

pub char_utf8 : (s : List ℕ) → IsUtf8 (take (char_len s) s)
char_utf8 [] = IsUtf8-nil
char_utf8 (b ∷ s) = utf8_by (b ∷ s) (char_len (b ∷ s)) (shortest b s).passes

-- a front of a character is no text

pub bounded : (c : ℕ) → (1 ≤ length (encode c)) × (length (encode c) ≤ 4)
bounded c = let bounds = len_utf8_bounds c in let same = length-encode c in (omega arith, omega arith)

shorter_by : (c m : ℕ) (cs : List ℕ) → 0 < m → m < length (encode c) → encodes cs ≡ take m (encode c) → ⊥
shorter_by c m [] p q e = let count : length (take m (encode c)) ≡ m = length-take-le m (encode c) (omega arith) in let none = ap length e in omega arith
shorter_by c m (d ∷ ds) p q e =
    let front : encode d ++ (encodes ds ++ drop m (encode c)) ≡ encode c ++ [] =
    sym (append_assoc (encode d) (encodes ds) (drop m (encode c))) ∙ ap (λ t. t ++ drop m (encode c)) e ∙ take-append-drop m (encode c) ∙ sym (append-nil (encode c)) in
    let same : d ≡ c = (encode_same d c (encodes ds ++ drop m (encode c)) [] front).0 in
    let counts : length (encode d) ≡ length (encode c) = ap (λ x. length (encode x)) same in
    let count : length (take m (encode c)) ≡ m = length-take-le m (encode c) (omega arith) in
    let sum : length (encode d) + length (encodes ds) ≡ length (take m (encode c)) = sym (length-append (encode d) (encodes ds)) ∙ ap length e in
    omega arith

shorter_front : (c m : ℕ) (r : List ℕ) → 0 < m → m < length (encode c) → is_utf8 (take m (encode c ++ r)) ≡ false
shorter_front c m r p q = elim (tested (is_utf8 (take m (encode c ++ r)))) [
  | inl passed ↦
      let text = IsUtf8-from_is_utf8 (take m (encode c ++ r)) passed in
      absurd (shorter_by c m text.0 p q (text.1.1 ∙ take-append-le m (encode c) r (omega arith)))
  | inr not_passed ↦ not_passed
]

one_char : (c : ℕ) → scalar c ≡ true → scalars (c ∷ []) ≡ true
one_char c h = rw h refl

whole_char : (c : ℕ) → scalar c ≡ true → IsUtf8 (encode c)
whole_char c h = (c ∷ [], (one_char c h, append-nil (encode c)))

char_len-at : (c : ℕ) (s r : List ℕ) → scalar c ≡ true → s ≡ encode c ++ r → char_len s ≡ length (encode c)
char_len-at c [] r h e = let counts = ap length e in absurd (omega (arith, length-append (encode c) r, bounded c))
char_len-at c (b ∷ s) r h e =
    let passes : is_utf8 (take (length (encode c)) (b ∷ s)) ≡ true =
    ap (λ t. is_utf8 (take (length (encode c)) t)) e ∙ ap is_utf8 (take_at (encode c) r (length (encode c)) refl) ∙ is_utf8-from_IsUtf8 (encode c) (whole_char c h) in
    least_is (front_is_text (b ∷ s)) (char_len (b ∷ s)) (length (encode c)) (shortest b s) (bounded c).0 (bounded c).1 passes
    (λ m p q. ap (λ t. is_utf8 (take m t)) e ∙ shorter_front c m r p q)

-- a character lies at the front of what begins with it, and has its bytes
pub char_len-encode : (c : ℕ) (r : List ℕ) → scalar c ≡ true → char_len (encode c ++ r) ≡ length (encode c)
char_len-encode c r h = char_len-at c (encode c ++ r) r h refl

eqb-suc : (n : ℕ) → eqb (suc n) 0 ≡ false
eqb-suc n = grind (arith, nat_tests)

some_char : (n : ℕ) (cs : List ℕ) (c : ℕ) → 0 < n → cs ≡ c ∷ [] → cond (eqb n 0) None (Some (get_or cs 0 0)) ≡ Some c
some_char zero cs c p e = absurd (omega arith)
some_char (suc n) cs c p e = rw (eqb-suc n) (ap (λ t. Some (get_or t 0 0)) e)

pub front_char-encode : (c : ℕ) (r : List ℕ) → scalar c ≡ true → front_char (encode c ++ r) ≡ Some c
front_char-encode c r h =
    let n = char_len (encode c ++ r) in
    let count : n ≡ length (encode c) = char_len-encode c r h in
    let front : take n (encode c ++ r) ≡ encode c = take_at (encode c) r n (sym count) in
    let decoded : chars (take n (encode c ++ r)) ≡ c ∷ [] = ap chars (front ∙ sym (append-nil (encode c))) ∙ chars-encodes (c ∷ []) (one_char c h) in
    some_char n (chars (take n (encode c ++ r))) c (omega (arith, bounded c)) decoded

-- what the character at the front is, and what is behind it
pub record Begins (s : List ℕ) : Type 0 where
  pub first : ℕ
  pub is_char : scalar first ≡ true
  pub behind : List ℕ
  pub whole : s ≡ encode first ++ behind

begins_by : (s cs : List ℕ) (n : ℕ) → 0 < n → n ≤ length s → scalars cs ≡ true → encodes cs ≡ take n s → Begins s
begins_by s [] n p q h e = let counts : length (take n s) ≡ n = length-take-le n s q in let none = ap length e in absurd (omega arith)
begins_by s (c ∷ cs) n p q h e = record {
  first = c;
  is_char = (both (scalar c) (scalars cs) h).0;
  behind = encodes cs ++ drop n s;
  whole = sym (take-append-drop n s) ∙ ap (λ t. t ++ drop n s) (sym e) ∙ append_assoc (encode c) (encodes cs) (drop n s);
}

-- where a character has a length, one lies there
pub begins : (s : List ℕ) → 0 < char_len s → Begins s
begins s p = let text = char_utf8 s in begins_by s text.0 (char_len s) p (char_len_le s) text.1.0 text.1.1

char_length : (s : List ℕ) (c : ℕ) → front_char s ≡ Some c → 0 < char_len s
char_length s c h = elim (cases_lt 0 (char_len s)) [
  | inl less ↦ less
  | inr none ↦ let zero_is : char_len s ≡ 0 = omega arith in let e : None ≡ Some c = sym (ap (λ n. cond (eqb n 0) None (Some (get_or (chars (take (char_len s) s)) 0 0))) zero_is) ∙ h in cc
]

-- what lies at the front is that character
pub front_char_is : (s : List ℕ) (c : ℕ) → front_char s ≡ Some c → (scalar c ≡ true) × (char_len s ≡ length (encode c)) × (s ≡ encode c ++ drop (char_len s) s)
front_char_is s c h =
    let at = begins s (char_length s c h) in
    let given : Some at.first ≡ Some c = sym (ap front_char at.whole ∙ front_char-encode at.first at.behind at.is_char) ∙ h in
    let same : at.first ≡ c = cc in
    let count : char_len s ≡ length (encode at.first) = ap char_len at.whole ∙ char_len-encode at.first at.behind at.is_char in
    let rest : drop (char_len s) s ≡ at.behind = ap (λ n. drop n s) count ∙ ap (drop (length (encode at.first))) at.whole ∙ drop_at (encode at.first) at.behind (length (encode at.first)) refl in
    (ap scalar (sym same) ∙ at.is_char, count ∙ ap (λ x. length (encode x)) same, at.whole ∙ (ap (λ x. encode x ++ at.behind) same ∙ ap (λ t. encode c ++ t) (sym rest)))

pub not_utf8 : (s : List ℕ) → (IsUtf8 s → ⊥) → is_utf8 s ≡ false
not_utf8 s h = elim (tested (is_utf8 s)) [ inl passed ↦ absurd (h (IsUtf8-from_is_utf8 s passed)) | inr not_passed ↦ not_passed ]
