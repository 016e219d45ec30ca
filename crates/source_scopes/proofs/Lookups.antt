-- What is found by a place in a list of names, and what stands at places of lists.
use Rattle.std.specs.Prelude.{ℕ, zero, suc, Bool, true, false, if◌then◌else◌, List, [], ◌∷◌, ◌++◌, map, slice_get, slice_set, replicate, length, position, Option, Some, None}
use Rattle.std.specs.List.{list_any, position_from}
use Rattle.std.specs.Option.{option_and_then}
use Rattle.std.specs.Str.{bytes_eq}
use Rattle.std.proofs.Common.{◌≡◌, ◌+◌, ◌<◌, ◌≤◌, refl, sym, ◌∙◌, ap, add-one, arith, get_or, drop-cons}
use Rattle.std.proofs.lemmas.Iterator.Adapters.{position_from-zero}
use Rattle.std.proofs.Math.ListN.{drop}
use Rattle.typed_tree.specs.declared.outlines.FileName.{FileName}
use Rattle.typed_tree.specs.Files.{declared_among}
use Rattle.source_scopes.specs.declared.meanings.Entry.{Entry}
use Rattle.source_scopes.specs.Entries.{entry_named, has_entry, name_of_entry}
use Rattle.source_scopes.specs.Naming.{declared_in, name_of_file_name}

-- the item in front of the rest of a list
front : {A : Type 0} (all : List A) (n : ℕ) (x : A) (xs : List A) → drop n all ≡ x ∷ xs → (slice_get all n ≡ Some x) × (drop (suc n) all ≡ xs)
front [] zero x xs e = cc
front [] (suc n) x xs e = cc
front (y ∷ ys) zero x xs e = (cc, cc)
front (y ∷ ys) (suc n) x xs e = front ys n x xs e

-- the first item of a name
abbrev first_named : {A : Type 0} → (A → List ℕ) → List ℕ → List A → Option A
first_named key name [] = None
first_named key name (x ∷ xs) = if bytes_eq (key x) name then Some x else first_named key name xs

-- a place among names is a place among what has these names
from_map : {A : Type 0} (key : A → List ℕ) (name : List ℕ) (n : ℕ) (xs : List A) → position_from (λ y. bytes_eq y name) n (map key xs) ≡ position_from (λ x. bytes_eq (key x) name) n xs
from_map key name n [] = refl
from_map key name n (x ∷ xs) = ap (λ rest. if bytes_eq (key x) name then Some n else rest) (from_map key name (n + 1) xs)

first_step : {A : Type 0} (key : A → List ℕ) (name : List ℕ) (all : List A) (n : ℕ) (x : A) (xs : List A) → drop n all ≡ x ∷ xs → (b : Bool) → bytes_eq (key x) name ≡ b
    → first_named key name xs ≡ option_and_then (slice_get all) (position_from (λ x. bytes_eq (key x) name) (suc n) xs)
    → first_named key name (x ∷ xs) ≡ option_and_then (slice_get all) (position_from (λ x. bytes_eq (key x) name) n (x ∷ xs))
first_step key name all n x xs h true is rest = rw (is, (front all n x xs h).0) refl
first_step key name all n x xs h false is rest = rw (is, add-one n) rest

first_from : {A : Type 0} (key : A → List ℕ) (name : List ℕ) (all : List A) (n : ℕ) (xs : List A) → drop n all ≡ xs
    → first_named key name xs ≡ option_and_then (slice_get all) (position_from (λ x. bytes_eq (key x) name) n xs)
first_from key name all n [] h = refl
first_from key name all n (x ∷ xs) h = first_step key name all n x xs h (bytes_eq (key x) name) refl (first_from key name all (suc n) xs (front all n x xs h).1)

first_placed : {A : Type 0} (key : A → List ℕ) (name : List ℕ) (xs : List A) → first_named key name xs ≡ option_and_then (slice_get xs) (position (λ y. bytes_eq y name) (map key xs))
first_placed key name xs = first_from key name xs 0 xs refl
    ∙ ap (option_and_then (slice_get xs)) (sym (position_from-zero (λ y. bytes_eq y name) (map key xs) ∙ from_map key name 0 xs))

first_at : {A : Type 0} (key : A → List ℕ) (name : List ℕ) (xs : List A) (p : Option ℕ) → position (λ y. bytes_eq y name) (map key xs) ≡ p
    → option_and_then (slice_get xs) p ≡ first_named key name xs
first_at key name xs p at = sym (first_placed key name xs ∙ ap (option_and_then (slice_get xs)) at)

-- entries
entry_first : (name : List ℕ) (es : List Entry) → entry_named name es ≡ first_named name_of_entry name es
entry_first name [] = refl
entry_first name (e ∷ es) = ap (λ rest. if bytes_eq e.name name then Some e else rest) (entry_first name es)

pub entry_at : (name : List ℕ) (names : List (List ℕ)) (es : List Entry) (p : Option ℕ) → names ≡ map name_of_entry es → position (λ y. bytes_eq y name) names ≡ p
    → option_and_then (slice_get es) p ≡ entry_named name es
entry_at name names es p are at = first_at name_of_entry name es p (ap (position (λ y. bytes_eq y name)) (sym are) ∙ at) ∙ sym (entry_first name es)

pub entry_among : (name : List ℕ) (es : List Entry) → list_any (λ x. bytes_eq x name) (map name_of_entry es) ≡ has_entry es name
entry_among name [] = refl
entry_among name (e ∷ es) = rw (entry_among name es) refl

-- names of a file
declared_first : (name : List ℕ) (names : List FileName) → declared_among name names ≡ declared_in (first_named name_of_file_name name names)
declared_first name [] = refl
declared_first name (n ∷ ns) = by_test (bytes_eq n.name name) (declared_first name ns)
  where
    by_test : (b : Bool) → declared_among name ns ≡ declared_in (first_named name_of_file_name name ns)
        → (if b then Some n.declared else declared_among name ns) ≡ declared_in (if b then Some n else first_named name_of_file_name name ns)
    by_test true e = refl
    by_test false e = e

pub declared_at : (name : List ℕ) (index : List (List ℕ)) (names : List FileName) (p : Option ℕ) → index ≡ map name_of_file_name names → position (λ y. bytes_eq y name) index ≡ p
    → declared_in (option_and_then (slice_get names) p) ≡ declared_among name names
declared_at name index names p are at =
    ap declared_in (first_at name_of_file_name name names p (ap (position (λ y. bytes_eq y name)) (sym are) ∙ at)) ∙ sym (declared_first name names)

-- ---- what holds at each place

-- where an item is written
pub set_each : {A : Type 0} (P : ℕ → Option A → Type 0) (xs : List A) (i : ℕ) (x : A) → ((k : ℕ) → P k (slice_get xs k)) → P i (Some x) → (k : ℕ) → P k (slice_get (slice_set xs i x) k)
set_each P [] i x each at k = each k
set_each P (y ∷ ys) zero x each at zero = at
set_each P (y ∷ ys) zero x each at (suc k) = each (suc k)
set_each P (y ∷ ys) (suc i) x each at zero = each zero
set_each P (y ∷ ys) (suc i) x each at (suc k) = set_each (λ n. P (suc n)) ys i x (λ n. each (suc n)) at k

pub length-set_each : {A : Type 0} (xs : List A) (i : ℕ) (x : A) → length (slice_set xs i x) ≡ length xs
length-set_each [] i x = refl
length-set_each (y ∷ ys) zero x = refl
length-set_each (y ∷ ys) (suc i) x = ap suc (length-set_each ys i x)

-- where all items are alike
pub replicate_each : {A : Type 0} (P : ℕ → Option A → Type 0) (x : A) → ((k : ℕ) → P k None) → ((k : ℕ) → P k (Some x)) → (n k : ℕ) → P k (slice_get (replicate n x) k)
replicate_each P x none some zero k = none k
replicate_each P x none some (suc n) zero = some zero
replicate_each P x none some (suc n) (suc k) = replicate_each (λ m. P (suc m)) x (λ m. none (suc m)) (λ m. some (suc m)) n k

-- where one more item is put behind
pub push_each : {A : Type 0} (f : ℕ → A) (xs : List A) (x : A) → ((k : ℕ) → k < length xs → slice_get xs k ≡ Some (f k)) → x ≡ f (length xs)
    → (k : ℕ) → k < length xs + 1 → slice_get (xs ++ x ∷ []) k ≡ Some (f k)
push_each f [] x each is zero less = ap Some is
push_each f [] x each is (suc k) less = absurd (omega arith)
push_each f (y ∷ ys) x each is zero less = each zero (omega arith)
push_each f (y ∷ ys) x each is (suc k) less = push_each (λ n. f (suc n)) ys x (λ n below. each (suc n) (omega (arith, below))) is k (omega (arith, less))

-- no item stands past the end
pub past_end : {A : Type 0} (xs : List A) (k : ℕ) → slice_get xs k ≡ None → length xs ≤ k
past_end [] k e = omega arith
past_end (x ∷ xs) zero e = cc
past_end (x ∷ xs) (suc k) e = omega (arith, past_end xs k e)

-- ---- how far a loop has come

pub left_at : {A : Type 0} (xs : List A) (i : ℕ) (x : A) → i < length xs → x ≡ get_or xs i x → drop i xs ≡ x ∷ drop (i + 1) xs
left_at xs i x less is = rw (add-one i) (drop-cons xs i x less ∙ ap (λ y. y ∷ drop (suc i) xs) (sym is))

pub none_left : {A : Type 0} (xs : List A) (i : ℕ) → length xs ≤ i → drop i xs ≡ []
none_left [] zero past = refl
none_left [] (suc i) past = refl
none_left (x ∷ xs) zero past = absurd (omega (arith, past))
none_left (x ∷ xs) (suc i) past = none_left xs i (omega (arith, past))
