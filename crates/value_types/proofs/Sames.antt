-- Lists that are the same up to a place.
use Rattle.std.proofs.Common.{◌≡◌, ℕ, ◌+◌, ◌<◌, List, length, take, get_or, sym, ◌∙◌, ap, refl, Some, Bool, true, false, not}
use Rattle.std.specs.Prelude.{slice_get}
use Rattle.std.specs.Str.{bytes_eq}
use Rattle.std.proofs.lemmas.Slice.Eq.{bytes_eq-Decides}
use Rattle.std.proofs.lemmas.List.{take_more_same}
use Rattle.std.proofs.lemmas.Option.{get_or_from_slice_get, slice_get_within}

-- the next items are the same too
pub next_same : {X : Type 0} (xs ys : List X) (i : ℕ) (x y : X) → i < length xs → x ≡ get_or xs i x → Some y ≡ slice_get ys i → x ≡ y
    → take i xs ≡ take i ys → take (i + 1) xs ≡ take (i + 1) ys
next_same xs ys i x y within at_x at_y e front =
    take_more_same xs ys i x within (slice_get_within ys i y (sym at_y)) front (sym at_x ∙ e ∙ sym (get_or_from_slice_get ys i y x (sym at_y)))

-- lists whose items at a place differ are different
pub apart : {X : Type 0} (xs ys : List X) (i : ℕ) (x y : X) → i < length xs → x ≡ get_or xs i x → Some y ≡ slice_get ys i → (x ≡ y → ⊥) → xs ≡ ys → ⊥
apart xs ys i x y within at_x at_y differ e = differ (at_x ∙ ap (λ zs. get_or zs i x) e ∙ get_or_from_slice_get ys i y x (sym at_y))

-- pairs whose parts are the same
pub pair_same : {A B : Type 0} (x y : A × B) → x.0 ≡ y.0 → x.1 ≡ y.1 → x ≡ y
pair_same {A} {B} x y e f = ap (λ (a : A). (a, x.1)) e ∙ ap (λ (b : B). (y.0, b)) f

-- what `!=` says of two texts
pub texts_same : (r : Bool) (a b : List ℕ) → r ≡ not (bytes_eq a b) → r ≡ false → a ≡ b
texts_same r a b e f = (bytes_eq-Decides a b).0 (not_false (bytes_eq a b) (sym e ∙ f))
  where
    not_false : (q : Bool) → not q ≡ false → q ≡ true
    not_false true h = refl
    not_false false h = cc

pub texts_differ : (r : Bool) (a b : List ℕ) → r ≡ not (bytes_eq a b) → r ≡ true → a ≡ b → ⊥
texts_differ r a b e f same =
    let one : not (bytes_eq a b) ≡ true = sym e ∙ f in
    let two : bytes_eq a b ≡ true = (bytes_eq-Decides a b).1 same in
    let three : not true ≡ true = ap not (sym two) ∙ one in cc
