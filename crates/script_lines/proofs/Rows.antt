-- A row number in brackets behind a step's name.
use Rattle.std.proofs.Common.{◌≡◌, ◌≢◌, ℕ, ◌<◌, ◌≤◌, true, false, List, [], ◌∷◌, ◌++◌, length, suc, get_or, Option, Some, None, Result, Ok, Err, refl, sym, ap, subst, arith, rules, tests, nat_le, nat_lt, eqb}
use Rattle.std.specs.List.{list_all}
use Rattle.std.specs.Char.{is_ascii_digit}
use Rattle.std.specs.Option.{option_map}
use Rattle.std.specs.Result.{result_ok}
use Rattle.std.specs.Str.Parse.{ParsesUnsigned}
use Rattle.std.proofs.lemmas.Str.Parse.{parse_digits, digits_value_short}
use Rattle.std.proofs.lemmas.Bool.{ne_eqb}
use Rattle.script_lines.specs.Paths.{row_number, before_close, bracketed, before_bracket, from_bracket, row_of}
use Rattle.script_lines.proofs.Ints.{digits_model}

pub row_number-parse : {E : Type 0} (ds : List ℕ) (r : Result ℕ E) → ParsesUnsigned 32 10 ds r → length ds ≤ 9 → list_all is_ascii_digit ds ≡ true → result_ok r ≡ row_number ds
row_number-parse {E} ds (Ok x) h short all =
    let k = parse_digits digits_model {E = E} 32 ds (Ok x) h all in
    let on : nat_lt 0 (length ds) ≡ true = search (rules, tests) in
    let low : nat_le (length ds) 9 ≡ true = search (rules, tests) in
    rw (on, low, all, k.1) refl
row_number-parse {E} [] (Err e) h short all = refl
row_number-parse {E} (d ∷ ds) (Err e) h short all =
    let k = parse_digits digits_model {E = E} 32 (d ∷ ds) (Err e) h all in
    let small = digits_value_short digits_model (d ∷ ds) 9 all short in
    absurd (k (omega arith, omega (arith, small)))

-- a text that ends with `]`
pub before_close-push : (xs : List ℕ) → before_close (xs ++ 93 ∷ []) ≡ Some xs
before_close-push [] = refl
before_close-push (x ∷ []) = refl
before_close-push (x ∷ y ∷ ys) = ap (option_map (λ front. x ∷ front)) (before_close-push (y ∷ ys))

-- a text that doesn't
pub before_close-none : (bs : List ℕ) → ((front : List ℕ) → bs ≢ front ++ 93 ∷ []) → before_close bs ≡ None
before_close-none [] other = refl
before_close-none (b ∷ []) other = let e : eqb b 93 ≡ false = ne_eqb b 93 (λ h. other [] (ap (λ v. v ∷ []) h)) in rw e refl
before_close-none (b ∷ c ∷ bs) other =
    let none : before_close (c ∷ bs) ≡ None = before_close-none (c ∷ bs) (λ front h. other (b ∷ front) (ap (λ v. b ∷ v) h)) in
    ap (option_map (λ front. b ∷ front)) none

-- a byte that is nowhere in a list
abbrev pub Lacks : ℕ → List ℕ → Type 0
Lacks c bs = (i : ℕ) → i < length bs → get_or bs i 0 ≢ c

lacks_more : (c b : ℕ) (bs : List ℕ) → Lacks c (b ∷ bs) → Lacks c bs
lacks_more c b bs h = λ i l. h (suc i) (omega arith)

pub before_bracket-at : (xs ys : List ℕ) → Lacks 91 xs → before_bracket (xs ++ 91 ∷ ys) ≡ xs
before_bracket-at [] ys h = refl
before_bracket-at (x ∷ xs) ys h = rw (ne_eqb x 91 (h 0 (omega arith)), before_bracket-at xs ys (lacks_more 91 x xs h)) refl

pub from_bracket-at : (xs ys : List ℕ) → Lacks 91 xs → from_bracket (xs ++ 91 ∷ ys) ≡ 91 ∷ ys
from_bracket-at [] ys h = refl
from_bracket-at (x ∷ xs) ys h = rw (ne_eqb x 91 (h 0 (omega arith))) (from_bracket-at xs ys (lacks_more 91 x xs h))

pub before_bracket-none : (xs : List ℕ) → Lacks 91 xs → before_bracket xs ≡ xs
before_bracket-none [] h = refl
before_bracket-none (x ∷ xs) h = rw (ne_eqb x 91 (h 0 (omega arith)), before_bracket-none xs (lacks_more 91 x xs h)) refl

pub from_bracket-none : (xs : List ℕ) → Lacks 91 xs → from_bracket xs ≡ []
from_bracket-none [] h = refl
from_bracket-none (x ∷ xs) h = rw (ne_eqb x 91 (h 0 (omega arith))) (from_bracket-none xs (lacks_more 91 x xs h))

-- a step's name, with what stands behind it read
abbrev parts_of : List ℕ → Option (List ℕ × Option ℕ)
parts_of text = option_map (λ row. (before_bracket text, row)) (row_of (from_bracket text))

pub parts_of-bracket : (text name behind : List ℕ) (row : Option ℕ) → (text ≡ name ++ 91 ∷ behind) × Lacks 91 name → row ≡ bracketed (before_close behind)
    → option_map {U = List ℕ × Option ℕ} (λ r. (name, Some r)) row ≡ parts_of text
parts_of-bracket text name behind row (whole, no_bracket) e =
    let P : List ℕ → Type 0 = λ v. option_map {U = List ℕ × Option ℕ} (λ r. (name, Some r)) row ≡ parts_of v in
    subst P (sym whole) (rw (before_bracket-at name behind no_bracket, from_bracket-at name behind no_bracket, ← e) (of_row name row))
  where
    of_row : (n : List ℕ) (r : Option ℕ) → option_map {U = List ℕ × Option ℕ} (λ v. (n, Some v)) r ≡ option_map (λ v. (n, v)) (option_map (λ v. Some v) r)
    of_row n None = refl
    of_row n (Some v) = refl

pub parts_of-alone : (text : List ℕ) → Lacks 91 text → Some (text, None) ≡ parts_of text
parts_of-alone text h = rw (before_bracket-none text h, from_bracket-none text h) refl
