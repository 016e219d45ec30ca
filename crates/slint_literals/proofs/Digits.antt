-- The digits of numbers, as they are written.
use Rattle.std.proofs.Common.{◌≡◌, ℕ, zero, suc, ◌+◌, ◌-◌, ◌*◌, ◌/◌, ◌%◌, ◌^◌, ◌<◌, ◌≤◌, Bool, true, ◌&&◌, List, [], ◌∷◌, ◌++◌, length, refl, sym, ap, ◌∙◌, arith}
use Rattle.std.specs.Char.{digit_char, digit_value}
use Rattle.std.specs.List.{list_all}
use Rattle.std.specs.Str.Parse.{digits_value_after}
use Rattle.std.proofs.Math.Nat.{pow-suc, pow-zero, div-div-eq-div-mul}
use Rattle.std.proofs.lemmas.List.{append_assoc, length-append}
use Rattle.std.proofs.lemmas.List.Folds.{list_all-append}
use Rattle.std.proofs.lemmas.Nat.{div-add-mod', mod_below}
use Rattle.std.proofs.lemmas.Str.{digit_value-digit_char}
use Rattle.slint_literals.proofs.Choices.{both_true}
use Rattle.slint_literals.specs.Spelled.{last_digits}

-- one digit behind the others
pub last_more : (base count n : ℕ) (out more all_of : List ℕ) → 0 < count → more ≡ out ++ last_digits base (count - 1) (n / base) → all_of ≡ more ++ digit_char (n % base) ∷ [] → all_of ≡ out ++ last_digits base count n
last_more base zero n out more all_of p e f = absurd (omega arith)
last_more base (suc count) n out more all_of p e f =
    let less : suc count - 1 ≡ count = omega arith in
    f ∙ ap (λ t. t ++ digit_char (n % base) ∷ []) (e ∙ ap (λ k. out ++ last_digits base k (n / base)) less) ∙ append_assoc out (last_digits base count (n / base)) (digit_char (n % base) ∷ [])

pub length-last_digits : (base count n : ℕ) → length (last_digits base count n) ≡ count
length-last_digits base zero n = refl
length-last_digits base (suc count) n = omega (arith, length-append (last_digits base count (n / base)) (digit_char (n % base) ∷ []), length-last_digits base count (n / base))

-- the digits of a number behind those of what is before them write the number
pub after_append : (base n : ℕ) (xs ys : List ℕ) → digits_value_after base n (xs ++ ys) ≡ digits_value_after base (digits_value_after base n xs) ys
after_append base n [] ys = refl
after_append base n (x ∷ xs) ys = after_append base (n * base + digit_value x) xs ys

quotient : (base count n : ℕ) → n / base ^ suc count ≡ n / base / base ^ count
quotient base count n =
    let power : base ^ suc count ≡ base * base ^ count = pow-suc base count ∙ omega arith in
    ap (λ p. n / p) power ∙ sym (div-div-eq-div-mul n base (base ^ count))

whole : (base n : ℕ) → n / base ^ 0 ≡ n
whole base n = ap (λ p. n / p) (pow-zero base) ∙ omega arith

pub after_last : (base count n : ℕ) → 0 < base → base ≤ 36 → digits_value_after base (n / base ^ count) (last_digits base count n) ≡ n
after_last base zero n h k = whole base n
after_last base (suc count) n h k =
    let first = n / base ^ suc count in
    let front = last_digits base count (n / base) in
    let others : digits_value_after base (n / base / base ^ count) front ≡ n / base = after_last base count (n / base) h k in
    let before : digits_value_after base first front ≡ n / base = ap (λ q. digits_value_after base q front) (quotient base count n) ∙ others in
    let below : n % base < base = mod_below n base h in
    let digit : digit_value (digit_char (n % base)) ≡ n % base = digit_value-digit_char (n % base) (omega arith) in
    after_append base first front (digit_char (n % base) ∷ [])
    ∙ ap (λ q. q * base + digit_value (digit_char (n % base))) before
    ∙ ap (λ d. n / base * base + d) digit
    ∙ div-add-mod' n base

-- each is a digit that passes a test of digits
pub last_pass : (p : ℕ → Bool) (base count n : ℕ) → 0 < base → ((d : ℕ) → d < base → p (digit_char d) ≡ true) → list_all p (last_digits base count n) ≡ true
last_pass p base zero n h k = refl
last_pass p base (suc count) n h k =
    list_all-append p (last_digits base count (n / base)) (digit_char (n % base) ∷ [])
    ∙ both_true (list_all p (last_digits base count (n / base))) (p (digit_char (n % base)) && true) (last_pass p base count (n / base) h k) (both_true (p (digit_char (n % base))) true (k (n % base) (mod_below n base h)) refl)
