-- The first of the faults that the items of a list come to, as a loop over the list tells it.
use Rattle.std.proofs.Common.{◌≡◌, ℕ, ◌+◌, ◌<◌, ◌≤◌, List, [], ◌++◌, Option, length, get_or, take, sym, ap, ◌∙◌}
use Rattle.std.specs.List.{flat_map}
use Rattle.std.proofs.lemmas.List.{take_all}
use Rattle.slint_base.specs.declared.faults.Fault.{Fault}
use Rattle.fault_order.specs.Order.{earlier_of, first_of}
use Rattle.fault_order.proofs.First.{first_of-append}
use Rattle.declaration_rules.specs.Turns.{in_turn}
use Rattle.declaration_rules.proofs.Gathering.{flat_map-one, front-next, in_turn-one}

-- the first of two lists, by those of each
pub joined : (xs ys : List Fault) (a b now : Option Fault) → a ≡ first_of xs → b ≡ first_of ys → now ≡ earlier_of a b → now ≡ first_of (xs ++ ys)
joined xs ys a b now p q e = e ∙ (ap (λ f. earlier_of f b) p ∙ (ap (λ f. earlier_of (first_of xs) f) q ∙ sym (first_of-append xs ys)))

pub joined-three : (xs ys zs : List Fault) (a b c bc now : Option Fault) → a ≡ first_of xs → b ≡ first_of ys → c ≡ first_of zs → bc ≡ earlier_of b c → now ≡ earlier_of a bc → now ≡ first_of (xs ++ (ys ++ zs))
joined-three xs ys zs a b c bc now p q r d e = joined xs (ys ++ zs) a bc now p (joined ys zs b c bc q r d) e

pub tells-next : {A : Type 0} (f : A → List Fault) (first more later : Option Fault) (xs : List A) (i : ℕ) (x : A) → i < length xs → x ≡ get_or xs i x
    → first ≡ first_of (flat_map f (take i xs)) → more ≡ first_of (f x) → later ≡ earlier_of first more → later ≡ first_of (flat_map f (take (i + 1) xs))
tells-next f first more later xs i x within is held told joins =
    joined (flat_map f (take i xs)) (f x) first more later held told joins ∙ ap first_of (sym (flat_map-one f (take i xs) x) ∙ ap (flat_map f) (sym (front-next xs i x within is)))

pub tells-all : {A : Type 0} (f : A → List Fault) (first : Option Fault) (xs : List A) (i : ℕ) → length xs ≤ i → first ≡ first_of (flat_map f (take i xs)) → first ≡ first_of (flat_map f xs)
tells-all f first xs i past held = held ∙ ap (λ ys. first_of (flat_map f ys)) (take_all i xs past)

pub turn_tells-next : {A : Type 0} (f : List A → A → List Fault) (first more later : Option Fault) (xs : List A) (i : ℕ) (x : A) → i < length xs → x ≡ get_or xs i x
    → first ≡ first_of (in_turn f [] (take i xs)) → more ≡ first_of (f (take i xs) x) → later ≡ earlier_of first more → later ≡ first_of (in_turn f [] (take (i + 1) xs))
turn_tells-next f first more later xs i x within is held told joins =
    joined (in_turn f [] (take i xs)) (f (take i xs) x) first more later held told joins ∙ ap first_of (sym (in_turn-one f [] (take i xs) x) ∙ ap (in_turn f []) (sym (front-next xs i x within is)))

pub turn_tells-all : {A : Type 0} (f : List A → A → List Fault) (first : Option Fault) (xs : List A) (i : ℕ) → length xs ≤ i → first ≡ first_of (in_turn f [] (take i xs)) → first ≡ first_of (in_turn f [] xs)
turn_tells-all f first xs i past held = held ∙ ap (λ ys. first_of (in_turn f [] ys)) (take_all i xs past)
