-- Layers, one after the other.
use Rattle.std.specs.Prelude.{ℕ, suc, List, [], ◌∷◌, ◌++◌, Option, Some, None}
use Rattle.std.proofs.Common.{◌≡◌, refl, sym, ◌∙◌, ◌+◌, ◌-◌, ◌<◌, ◌≤◌, arith, append_assoc}
use Rattle.std.proofs.lemmas.List.{append-nil}
use Rattle.expanded_tree.specs.declared.bodies.Body.{Body}
use Rattle.expanded_tree.specs.declared.bodies.Place.{Place}
use Rattle.expanded_tree.specs.declared.bodies.Spot.{Spot}
use Rattle.expanded_tree.specs.Places.{inwards, last_or, layers_within}

-- what is left before a step is one more than what is left behind it
pub one_less : (n i : ℕ) → i < n → n - i ≡ suc (n - (i + 1))
one_less n i h = omega arith

pub no_layers : (bodies : List Body) (places : List Place) (next : Option Spot) → layers_within 0 bodies places next ≡ []
no_layers bodies places None = refl
no_layers bodies places (Some spot) = refl

-- the last layer, a layer further in
pub innermost_goes : (bodies : List Body) (places : List Place) (n i : ℕ) (last layer : Spot) {all : Spot} {next after : Option Spot} → i < n
    → all ≡ last_or last (layers_within (n - i) bodies places next) → next ≡ Some layer → after ≡ inwards bodies places layer
    → all ≡ last_or layer (layers_within (n - (i + 1)) bodies places after)
innermost_goes bodies places n i last layer h k is goes = rw goes (k ∙ rw (is, one_less n i h) refl)

pub innermost_ends : (bodies : List Body) (places : List Place) (n i : ℕ) (last : Spot) (next : Option Spot) {all : Spot} → n ≤ i
    → all ≡ last_or last (layers_within (n - i) bodies places next) → last ≡ all
innermost_ends bodies places n i last next past k =
    let done : n - i ≡ 0 = omega arith in
    sym (k ∙ rw (done, no_layers bodies places next) refl)

-- the layers so far, and those further in
pub layers_go : (bodies : List Body) (places : List Place) (n i : ℕ) (found : List Spot) (layer : Spot) {all more : List Spot} {next after : Option Spot} → i < n
    → all ≡ found ++ layers_within (n - i) bodies places next → next ≡ Some layer → more ≡ found ++ layer ∷ [] → after ≡ inwards bodies places layer
    → all ≡ more ++ layers_within (n - (i + 1)) bodies places after
layers_go bodies places n i found layer h k is adds goes =
    rw (goes, adds) (k ∙ rw (is, one_less n i h) (sym (append_assoc found (layer ∷ []) (layers_within (n - (i + 1)) bodies places (inwards bodies places layer)))))

pub layers_stop : (bodies : List Body) (places : List Place) (n i : ℕ) (found : List Spot) {all : List Spot} {next : Option Spot}
    → all ≡ found ++ layers_within (n - i) bodies places next → next ≡ None → found ≡ all
layers_stop bodies places n i found k is = sym (k ∙ rw is (append-nil found))

pub layers_end : (bodies : List Body) (places : List Place) (n i : ℕ) (found : List Spot) (next : Option Spot) {all : List Spot} → n ≤ i
    → all ≡ found ++ layers_within (n - i) bodies places next → found ≡ all
layers_end bodies places n i found next past k =
    let done : n - i ≡ 0 = omega arith in
    sym (k ∙ rw (done, no_layers bodies places next) (append-nil found))
