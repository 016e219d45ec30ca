-- Lists that are made of the lists of many things, one after the other.
use Rattle.std.proofs.Common.{◌≡◌, ℕ, suc, ◌+◌, ◌<◌, ◌≤◌, List, [], ◌∷◌, ◌++◌, Option, Some, map, take, length, get_or, sym, ◌∙◌, ap, refl, ◌⊎◌, inl, inr, append_assoc, arith}
use Rattle.std.specs.Prelude.{slice_get}
use Rattle.std.specs.List.{flat_map}
use Rattle.std.proofs.lemmas.List.{append-nil, flat_map_more, length-take-le, take_all, take_more}
use Rattle.slint_base.specs.declared.faults.Fault.{Fault}
use Rattle.fault_order.specs.Order.{earlier_of, first_of}
use Rattle.fault_order.proofs.First.{first_of-append}
use Rattle.finite_graphs.specs.Walks.{At, In, first, here, next, there}
use Rattle.finite_graphs.proofs.Lists.{in_left, in_none, in_right, in_split}
use Rattle.loop_check.specs.declared.bodies.Body.{Body}
use Rattle.loop_check.specs.Bodies.{bodies_from}

-- lists of lists that are mapped first
pub all_map : {A B : Type 0} (f : A → List B) (xs : List A) → flat_map (λ (ys : List B). ys) (map f xs) ≡ flat_map f xs
all_map f [] = refl
all_map f (x ∷ xs) = ap (λ z. f x ++ z) (all_map f xs)

-- a turn of a loop that adds what comes of each thing
pub turn : {A B : Type 0} (f : A → List B) (xs : List A) (i : ℕ) (x : A) (a now new : List B) → i < length xs → x ≡ get_or xs i x → now ≡ a ++ flat_map f (take i xs) → new ≡ now ++ f x
    → new ≡ a ++ flat_map f (take (i + 1) xs)
turn f xs i x a now new h e p q =
    q ∙ ap (λ z. z ++ f x) p ∙ flat_map_more f a (take i xs) x ∙ ap (λ ys. a ++ flat_map f ys) (sym (take_more xs i x h ∙ ap (λ y. take i xs ++ y ∷ []) (sym e)))

pub end_of_turns : {A B : Type 0} (f : A → List B) (xs : List A) (i : ℕ) (a now : List B) → length xs ≤ i → now ≡ a ++ flat_map f (take i xs) → now ≡ a ++ flat_map f xs
end_of_turns f xs i a now h p = p ∙ ap (λ ys. a ++ flat_map f ys) (take_all i xs h)

-- of which thing something came
pub record Came {A B : Type 0} (f : A → List B) (xs : List A) (y : B) : Type 0 where
  pub thing : A
  pub among : In thing xs
  pub made : In y (f thing)

came_later : {A B : Type 0} {f : A → List B} {x : A} {xs : List A} {y : B} → Came f xs y → Came f (x ∷ xs) y
came_later c = record { thing = c.thing; among = there c.among; made = c.made }

came_by : {A B : Type 0} (f : A → List B) (x : A) (xs : List A) {y : B} → (In y (flat_map f xs) → Came f xs y) → In y (f x) ⊎ In y (flat_map f xs) → Came f (x ∷ xs) y
came_by f x xs rest (inl k) = record { thing = x; among = here; made = k }
came_by f x xs rest (inr k) = came_later (rest k)

pub came : {A B : Type 0} (f : A → List B) (xs : List A) {y : B} → In y (flat_map f xs) → Came f xs y
came f [] h = absurd (in_none h)
came f (x ∷ xs) h = came_by f x xs (λ k. came f xs k) (in_split (f x) (flat_map f xs) h)

pub comes : {A B : Type 0} (f : A → List B) {xs : List A} {x : A} {y : B} → In x xs → In y (f x) → In y (flat_map f xs)
comes f (here {x = x} {xs = xs}) k = in_left (flat_map f xs) k
comes f (there {y = z} h) k = in_right (f z) (comes f h k)

pub read_at : {A : Type 0} {x : A} {xs : List A} {i : ℕ} → At x xs i → slice_get xs i ≡ Some x
read_at first = refl
read_at (next h) = read_at h

-- ---- lists whose things are numbered

pub from_push : {A : Type 0} (f : ℕ → A → List Body) (n : ℕ) (xs : List A) (x : A) → bodies_from f n (xs ++ x ∷ []) ≡ bodies_from f n xs ++ f (n + length xs) x
from_push f n [] x = append-nil (f n x) ∙ ap (λ (m : ℕ). f m x) (omega arith)
from_push f n (y ∷ ys) x =
    ap (λ z. f n y ++ z) (from_push f (suc n) ys x) ∙ sym (append_assoc (f n y) (bodies_from f (suc n) ys) (f (suc n + length ys) x))
    ∙ ap (λ (m : ℕ). (f n y ++ bodies_from f (suc n) ys) ++ f m x) (omega arith)

-- a turn of a loop over them
pub turn_from : {A : Type 0} (f : ℕ → A → List Body) (xs : List A) (i : ℕ) (x : A) (a now new : List Body) → i < length xs → x ≡ get_or xs i x → now ≡ a ++ bodies_from f 0 (take i xs)
    → new ≡ now ++ f i x → new ≡ a ++ bodies_from f 0 (take (i + 1) xs)
turn_from f xs i x a now new h e p q =
    let long : length (take i xs) ≡ i = length-take-le i xs (omega (arith, h)) in
    let more : bodies_from f 0 (take (i + 1) xs) ≡ bodies_from f 0 (take i xs) ++ f i x =
    ap (bodies_from f 0) (take_more xs i x h ∙ ap (λ y. take i xs ++ y ∷ []) (sym e)) ∙ from_push f 0 (take i xs) x
    ∙ ap (λ (m : ℕ). bodies_from f 0 (take i xs) ++ f m x) (omega (arith, long)) in
    q ∙ ap (λ z. z ++ f i x) p ∙ append_assoc a (bodies_from f 0 (take i xs)) (f i x) ∙ ap (λ z. a ++ z) (sym more)

pub end_from : {A : Type 0} (f : ℕ → A → List Body) (xs : List A) (i : ℕ) (a now : List Body) → length xs ≤ i → now ≡ a ++ bodies_from f 0 (take i xs) → now ≡ a ++ bodies_from f 0 xs
end_from f xs i a now h p = p ∙ ap (λ ys. a ++ bodies_from f 0 ys) (take_all i xs h)

-- ---- the first of listed faults

pub turn_first : {A : Type 0} (f : A → List Fault) (xs : List A) (i : ℕ) (x : A) (now new : Option Fault) → i < length xs → x ≡ get_or xs i x → now ≡ first_of (flat_map f (take i xs))
    → new ≡ earlier_of now (first_of (f x)) → new ≡ first_of (flat_map f (take (i + 1) xs))
turn_first f xs i x now new h e p q =
    q ∙ ap (λ (z : Option Fault). earlier_of z (first_of (f x))) p ∙ sym (first_of-append (flat_map f (take i xs)) (f x))
    ∙ ap first_of (turn f xs i x [] (flat_map f (take i xs)) (flat_map f (take i xs) ++ f x) h e refl refl)

pub end_first : {A : Type 0} (f : A → List Fault) (xs : List A) (i : ℕ) (now : Option Fault) → length xs ≤ i → now ≡ first_of (flat_map f (take i xs)) → now ≡ first_of (flat_map f xs)
end_first f xs i now h p = p ∙ ap (λ ys. first_of (flat_map f ys)) (take_all i xs h)

-- the same where the thing is read with a default
pub turn_first_or : {A : Type 0} (f : A → List Fault) (xs : List A) (i : ℕ) (d : A) (now new : Option Fault) → i < length xs → now ≡ first_of (flat_map f (take i xs))
    → new ≡ earlier_of now (first_of (f (get_or xs i d))) → new ≡ first_of (flat_map f (take (i + 1) xs))
turn_first_or f xs i d now new h p q =
    q ∙ ap (λ (z : Option Fault). earlier_of z (first_of (f (get_or xs i d)))) p ∙ sym (first_of-append (flat_map f (take i xs)) (f (get_or xs i d)))
    ∙ ap first_of (flat_map_more f [] (take i xs) (get_or xs i d) ∙ ap (λ ys. flat_map f ys) (sym (take_more xs i d h)))
