-- The elements of which places are layers.
use Rattle.std.specs.Prelude.{ℕ, List, length, Option, Some, None}
use Rattle.std.proofs.Common.{◌≡◌, refl, sym, ap, ◌∙◌, ◌+◌, ◌-◌, ◌<◌, ◌≤◌, arith, add-one, drop, get_or}
use Rattle.std.proofs.lemmas.List.{drop_all}
use Rattle.expanded_tree.specs.declared.bodies.Body.{Body}
use Rattle.expanded_tree.specs.declared.bodies.Place.{Place}
use Rattle.expanded_tree.specs.declared.bodies.Spot.{Spot}
use Rattle.expanded_tree.specs.declared.elements.ExpandedElement.{ExpandedElement}
use Rattle.expanded_tree.specs.Places.{inwards, with_owner, with_owner_within}
use Rattle.expanded_tree.specs.Trees.{with_owners}
use Rattle.inliner.proofs.Grows.{from_item, one_less}

pub owned_goes : (bodies : List Body) (x n i : ℕ) (layer : Spot) (places : List Place) {next next2 : Option Spot} {places2 all : List Place} → i < n → next ≡ Some layer
    → next2 ≡ inwards bodies places layer → places2 ≡ with_owner bodies places x layer → all ≡ with_owner_within (n - i) bodies x next places
    → all ≡ with_owner_within (n - (i + 1)) bodies x next2 places2
owned_goes bodies x n i layer places h is goes sets k = rw (goes, sets) (k ∙ rw (is, one_less n i h) refl)

no_owner : (bodies : List Body) (x : ℕ) (next : Option Spot) (places : List Place) → with_owner_within 0 bodies x next places ≡ places
no_owner bodies x None places = refl
no_owner bodies x (Some spot) places = refl

pub owned_ends : (bodies : List Body) (x n i : ℕ) (next : Option Spot) (places : List Place) {all : List Place} → n ≤ i
    → all ≡ with_owner_within (n - i) bodies x next places → places ≡ all
owned_ends bodies x n i next places past k =
    let done : n - i ≡ 0 = omega arith in
    sym (k ∙ rw done (no_owner bodies x next places))

pub owners_turn : (bodies : List Body) (xs : List ExpandedElement) (i : ℕ) (x : ExpandedElement) (places : List Place) {places2 all : List Place} → x ≡ get_or xs i x → i < length xs
    → places2 ≡ with_owner_within (length bodies) bodies i (Some x.spot) places → with_owners bodies i (drop i xs) places ≡ all
    → with_owners bodies (i + 1) (drop (i + 1) xs) places2 ≡ all
owners_turn bodies xs i x places is within goes k =
    ap (λ ps. with_owners bodies (i + 1) (drop (i + 1) xs) ps) goes
    ∙ ap (λ n. with_owners bodies n (drop (i + 1) xs) (with_owner_within (length bodies) bodies i (Some x.spot) places)) (add-one i)
    ∙ ap (λ ys. with_owners bodies i ys places) (sym (from_item xs i x is within))
    ∙ k

pub owners_end : (bodies : List Body) (xs : List ExpandedElement) (i : ℕ) {places all : List Place} → length xs ≤ i → with_owners bodies i (drop i xs) places ≡ all → places ≡ all
owners_end bodies xs i {places = places} past k = sym (ap (λ ys. with_owners bodies i ys places) (drop_all i xs past)) ∙ k
