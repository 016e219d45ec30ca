-- Lists that are made in loops: what is there and what is left are the whole.
use Rattle.std.proofs.Common.{◌≡◌, ℕ, zero, suc, List, [], ◌∷◌, ◌++◌, ◌+◌, ◌-◌, ◌<◌, ◌≤◌, length, drop, get_or, map, Option, Some, None, refl, sym, ◌∙◌, ap, append_assoc, add-one, arith}
use Rattle.std.proofs.lemmas.List.{append-nil, drop_all}
use Rattle.std.proofs.Math.Seq.{drop-cons}
use Rattle.source_outline.specs.Members.{in_front}

-- what is left of a list at an item
pub from_item : {A : Type 0} (xs : List A) (i : ℕ) (x : A) → x ≡ get_or xs i x → i < length xs → drop i xs ≡ x ∷ drop (i + 1) xs
from_item xs i x e h = drop-cons xs i x h ∙ ap (λ y. y ∷ drop (suc i) xs) (sym e) ∙ ap (λ n. x ∷ drop n xs) (sym (add-one i))

pub front : {A : Type 0} (made : Option A) (xs : List A) → in_front made [] ++ xs ≡ in_front made xs
front None xs = refl
front (Some x) xs = refl

-- a turn: a part is added, and what is left is that behind it
pub turn : {X Y : Type 0} (F : ℕ → List X → List Y) (part : List Y) (xs : List X) (i : ℕ) (x : X) (out next whole : List Y)
    → F i (x ∷ drop (i + 1) xs) ≡ part ++ F (suc i) (drop (i + 1) xs) → x ≡ get_or xs i x → i < length xs → next ≡ out ++ part
    → out ++ F i (drop i xs) ≡ whole → next ++ F (i + 1) (drop (i + 1) xs) ≡ whole
turn F part xs i x out next whole step e h added is =
    ap (λ ys. ys ++ F (i + 1) (drop (i + 1) xs)) added
    ∙ ap (λ n. (out ++ part) ++ F n (drop (i + 1) xs)) (add-one i)
    ∙ append_assoc out part (F (suc i) (drop (i + 1) xs))
    ∙ ap (λ ys. out ++ ys) (sym step)
    ∙ ap (λ ys. out ++ F i ys) (sym (from_item xs i x e h))
    ∙ is

-- at the end nothing is left
pub ended : {X Y : Type 0} (F : ℕ → List X → List Y) (xs : List X) (i : ℕ) (out whole : List Y)
    → F i [] ≡ [] → length xs ≤ i → out ++ F i (drop i xs) ≡ whole → out ≡ whole
ended F xs i out whole none h is = sym (append-nil out) ∙ ap (λ ys. out ++ ys) (sym none) ∙ ap (λ ys. out ++ F i ys) (sym (drop_all i xs h)) ∙ is

-- in front of what is left
pub begun : {Y : Type 0} (ys : List Y) → [] ++ ys ≡ ys
begun ys = refl

-- an item that is there doesn't depend on what would stand in its place
pub any_default : {A : Type 0} (xs : List A) (i : ℕ) (d e : A) → i < length xs → get_or xs i d ≡ get_or xs i e
any_default [] i d e h = absurd (omega arith)
any_default (x ∷ xs) zero d e h = refl
any_default (x ∷ xs) (suc i) d e h = any_default xs i d e (omega arith)

-- a list whose items are made one by one
pub map_turn : {X Y : Type 0} (f : X → Y) (xs : List X) (i : ℕ) (x : X) (y : Y) (out next whole : List Y)
    → x ≡ get_or xs i x → i < length xs → y ≡ f x → next ≡ out ++ y ∷ [] → out ++ map f (drop i xs) ≡ whole → next ++ map f (drop (i + 1) xs) ≡ whole
map_turn f xs i x y out next whole e h made added is = turn (λ _ ys. map f ys) (f x ∷ []) xs i x out next whole refl e h (added ∙ ap (λ z. out ++ z ∷ []) made) is

pub map_ended : {X Y : Type 0} (f : X → Y) (xs : List X) (i : ℕ) (out whole : List Y) → length xs ≤ i → out ++ map f (drop i xs) ≡ whole → out ≡ whole
map_ended f xs i out whole h is = ended (λ _ ys. map f ys) xs i out whole refl h is
