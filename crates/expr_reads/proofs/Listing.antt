-- Lists that are made of the lists of many things, one after the other.
use Rattle.std.proofs.Common.{◌≡◌, List, [], ◌∷◌, ◌++◌, map, ap, refl, sym, subst, ◌⊎◌, inl, inr}
use Rattle.std.specs.List.{flat_map}
use Rattle.finite_graphs.specs.Walks.{In, here, there}
use Rattle.finite_graphs.proofs.Lists.{in_left, in_none, in_right, in_split}

-- lists of lists that are mapped first
pub all_map : {A B : Type 0} (f : A → List B) (xs : List A) → flat_map (λ (ys : List B). ys) (map f xs) ≡ flat_map f xs
all_map f [] = refl
all_map f (x ∷ xs) = ap (λ z. f x ++ z) (all_map f xs)

-- of which thing something came
pub record Came {A B : Type 0} (f : A → List B) (xs : List A) (y : B) : Type 0 where
  pub thing : A
  pub among : In thing xs
  pub made : In y (f thing)

came_later : {A B : Type 0} {f : A → List B} {x : A} {xs : List A} {y : B} → Came f xs y → Came f (x ∷ xs) y
came_later c = record { thing = c.thing; among = there c.among; made = c.made }

came_by : {A B : Type 0} (f : A → List B) (x : A) (xs : List A) {y : B} → (In y (flat_map f xs) → Came f xs y) → In y (f x) ⊎ In y (flat_map f xs) → Came f (x ∷ xs) y
came_by f x xs rest (inl k) = record { thing = x; among = here; made = k }
came_by f x xs rest (inr k) = came_later (rest k)

pub came : {A B : Type 0} (f : A → List B) (xs : List A) {y : B} → In y (flat_map f xs) → Came f xs y
came f [] h = absurd (in_none h)
came f (x ∷ xs) h = came_by f x xs (λ k. came f xs k) (in_split (f x) (flat_map f xs) h)

pub comes : {A B : Type 0} (f : A → List B) {xs : List A} {x : A} {y : B} → In x xs → In y (f x) → In y (flat_map f xs)
comes f (here {x = x} {xs = xs}) k = in_left (flat_map f xs) k
comes f (there {y = z} h) k = in_right (f z) (comes f h k)

pub in_all : {A B : Type 0} (f : A → List B) (xs : List A) {x : A} {y : B} → In x xs → In y (f x) → In y (flat_map (λ (ys : List B). ys) (map f xs))
in_all {B} f xs {y = y} k h = let P : List B → Type 0 = λ ys. In y ys in subst P (sym (all_map f xs)) (comes f k h)

-- ---- things of which something is known

abbrev pub Known : {A : Type 0} → (A → Type 0) → Type 0
Known {A} P = (x : A) × P x

abbrev pub bares : {A : Type 0} (P : A → Type 0) → List (Known P) → List A
bares P ys = map (λ y. y.0) ys

known_more : {A : Type 0} (P : A → Type 0) {t x : A} {xs : List A} → P x → (In t xs → P t) → In t (x ∷ xs) → P t
known_more P p rest here = p
known_more P p rest (there h) = rest h

known_of : {A : Type 0} (P : A → Type 0) (ys : List (Known P)) {t : A} → In t (bares P ys) → P t
known_of P [] h = absurd (in_none h)
known_of P (y ∷ ys) h = known_more P y.1 (λ k. known_of P ys k) h

-- the thing of which something came, with what is known of it
pub record Through {A B : Type 0} (P : A → Type 0) (f : A → List B) (xs : List A) (y : B) : Type 0 where
  pub thing : A
  pub among : In thing xs
  pub made : In y (f thing)
  pub known : P thing

pub through : {A B : Type 0} (P : A → Type 0) (f : A → List B) (ys : List (Known P)) {y : B} → In y (flat_map (λ (zs : List B). zs) (map f (bares P ys))) → Through P f (bares P ys) y
through {A} {B} P f ys {y} h =
    let Q : List B → Type 0 = λ zs. In y zs in
    let c : Came f (bares P ys) y = came f (bares P ys) (subst Q (all_map f (bares P ys)) h) in
    record { thing = c.thing; among = c.among; made = c.made; known = known_of P ys c.among }
