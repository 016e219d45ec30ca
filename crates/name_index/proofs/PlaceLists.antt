-- The places of a name: with one name more, the first one, and whether there is one.
use native.Mathlib.Numerals.{unary_clauses}
use Rattle.std.specs.Prelude.{String, Vec, OnOk, Result, Ok, Err, ℕ, suc, Bool, true, false, ◌||◌, if◌then◌else◌, List, [], ◌∷◌, ◌++◌, length, slice_get, position, Some}
use Rattle.std.specs.BTreeMap.{BTreeMap}
use Rattle.std.specs.Global.{Global}
use Rattle.std.specs.List.{list_any, position_from}
use Rattle.std.specs.Option.{is_some}
use Rattle.std.specs.Result.{is_err}
use Rattle.std.specs.Str.{bytes_eq}
use Rattle.std.proofs.Common.{◌≡◌, refl, sym, ◌∙◌, ap, ◌+◌, add-one, arith}
use Rattle.std.proofs.lemmas.Iterator.Adapters.{position_from-zero}
use Rattle.slint_base.specs.declared.endings.Memory.{Memory}
use Rattle.name_index.specs.Places.{Adds, Places, places_at, places_from, places_of}

-- the places with one name more
abbrev with_place : Bool → List ℕ → ℕ → List ℕ
with_place true places place = places ++ place ∷ []
with_place false places place = places

more_from : (n : ℕ) (name : List ℕ) (xs : List (List ℕ)) (x : List ℕ) → places_from n name (xs ++ x ∷ []) ≡ with_place (bytes_eq x name) (places_from n name xs) (n + length xs)
more_from n name [] x = by_test (bytes_eq x name)
  where
    by_test : (b : Bool) → (if b then n ∷ [] else []) ≡ with_place b [] (n + 0)
    by_test true = simp unary_clauses refl
    by_test false = refl
more_from n name (y ∷ ys) x = by_test (bytes_eq y name) (bytes_eq x name) (more_from (suc n) name ys x)
  where
    shift : suc n + length ys ≡ n + suc (length ys)
    shift = omega arith

    by_test : (a b : Bool) → places_from (suc n) name (ys ++ x ∷ []) ≡ with_place b (places_from (suc n) name ys) (suc n + length ys)
        → (if a then n ∷ places_from (suc n) name (ys ++ x ∷ []) else places_from (suc n) name (ys ++ x ∷ [])) ≡ with_place b (if a then n ∷ places_from (suc n) name ys else places_from (suc n) name ys) (n + suc (length ys))
    by_test true true e = rw (e, shift) refl
    by_test true false e = rw e refl
    by_test false true e = rw (e, shift) refl
    by_test false false e = rw e refl

pub places_more : (name : List ℕ) (xs : List (List ℕ)) (x : List ℕ) → places_of name (xs ++ x ∷ []) ≡ with_place (bytes_eq x name) (places_of name xs) (length xs)
places_more name xs x =
    let from_zero : 0 + length xs ≡ length xs = omega arith in
    rw (← from_zero) (more_from 0 name xs x)

-- the first place is where the name is found first
first_from : (n : ℕ) (name : List ℕ) (xs : List (List ℕ)) → slice_get (places_from n name xs) 0 ≡ position_from (λ x. bytes_eq x name) n xs
first_from n name [] = refl
first_from n name (x ∷ xs) = by_test (bytes_eq x name) (first_from (suc n) name xs)
  where
    by_test : (b : Bool) → slice_get (places_from (suc n) name xs) 0 ≡ position_from (λ y. bytes_eq y name) (suc n) xs
        → slice_get (if b then n ∷ places_from (suc n) name xs else places_from (suc n) name xs) 0 ≡ (if b then Some n else position_from (λ y. bytes_eq y name) (n + 1) xs)
    by_test true e = refl
    by_test false e = rw (add-one n) e

pub first_place : (name : List ℕ) (xs : List (List ℕ)) → slice_get (places_of name xs) 0 ≡ position (λ x. bytes_eq x name) xs
first_place name xs = first_from 0 name xs ∙ sym (position_from-zero (λ x. bytes_eq x name) xs)

-- a test passes somewhere where there is a first place
any_from : {A : Type 0} (test : A → Bool) (n : ℕ) (xs : List A) → list_any test xs ≡ is_some (position_from test n xs)
any_from test n [] = refl
any_from test n (x ∷ xs) = by_test (test x) (any_from test (n + 1) xs)
  where
    by_test : (b : Bool) → list_any test xs ≡ is_some (position_from test (n + 1) xs) → (b || list_any test xs) ≡ is_some (if b then Some n else position_from test (n + 1) xs)
    by_test true e = refl
    by_test false e = e

pub any_place : {A : Type 0} (test : A → Bool) (xs : List A) → is_some (position test xs) ≡ list_any test xs
any_place test xs = ap is_some (position_from-zero test xs) ∙ sym (any_from test 0 xs)

-- the map of places goes with the list, one name more
one_more : (b : Bool) (at places : List ℕ) (place : ℕ) → at ≡ places → (if b then at ++ place ∷ [] else at) ≡ with_place b places place
one_more true at places place e = rw e refl
one_more false at places place e = e

pub grown : (r : Result (Unit {0}) Memory) (old new : BTreeMap (String Global) (Vec ℕ Global)) (names longer : List (List ℕ)) (name item : List ℕ) (place : ℕ) → OnOk r (Adds old new name place) → is_err r ≡ false
    → Places old names → place ≡ length names → item ≡ name → longer ≡ names ++ item ∷ [] → Places new longer
grown (Ok done) old new names longer name item place added went held is_last same is = λ other.
    rw (is, same, places_more other names name) (added other ∙ rw is_last (one_more (bytes_eq name other) (places_at old other) (places_of other names) (length names) (held other)))
grown (Err e) old new names longer name item place added went held is_last same is = cc
