-- Where a text stands in a list of texts.
use Rattle.std.proofs.Common.{◌≡◌, ℕ, ◌+◌, Bool, true, false, cond, List, [], ◌∷◌, map, Option, Some, None, refl, ap}
use Rattle.std.proofs.lemmas.List.{length-map}
use Rattle.std.specs.List.{prefix_len, find, position}
use Rattle.std.specs.Option.{option_map}
use Rattle.std.specs.Prelude.{nat_lt, not}

prefix_len-map : {X Y : Type 0} (f : X → Y) (p : Y → Bool) (xs : List X) → prefix_len p (map f xs) ≡ prefix_len (λ x. p (f x)) xs
prefix_len-map f p [] = refl
prefix_len-map f p (x ∷ xs) = ap (λ (n : ℕ). cond (p (f x)) (1 + n) 0) (prefix_len-map f p xs)

pub position-map : {X Y : Type 0} (f : X → Y) (p : Y → Bool) (xs : List X) → position p (map f xs) ≡ position (λ x. p (f x)) xs
position-map f p xs = λ i. cond (nat_lt (prefix_len-map f (λ y. not (p y)) xs i) (length-map xs f i)) (Some (prefix_len-map f (λ y. not (p y)) xs i)) None

chosen : {X Y : Type 0} (f : X → Y) (b : Bool) (x : X) (p : Option X) (q : Option Y) → option_map f p ≡ q → option_map f (cond b (Some x) p) ≡ cond b (Some (f x)) q
chosen f true x p q e = refl
chosen f false x p q e = e

pub find-map : {X Y : Type 0} (f : X → Y) (p : Y → Bool) (xs : List X) → option_map f (find (λ x. p (f x)) xs) ≡ find p (map f xs)
find-map f p [] = refl
find-map f p (x ∷ xs) = chosen f (p (f x)) x _ _ (find-map f p xs)
