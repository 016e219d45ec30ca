-- Nodes that have just so many parts.
use Rattle.std.proofs.Common.{◌≡◌, ◌≢◌, List, [], ◌∷◌, length, refl, Result, Ok}
use Rattle.slint_base.specs.declared.faults.Fault.{Fault}
use Rattle.expr_rules.specs.declared.judged.Judged.{Judged}
use Rattle.expr_rules.specs.declared.judged.Judged.TheVariants as judged
use Rattle.expr_rules.specs.Own.{of_one, of_two, of_three}

pub not_one : (go : Judged → Result Judged Fault) (xs : List Judged) → length xs ≢ 1 → of_one go xs ≡ Ok judged.Fresh
not_one go [] h = refl
not_one go (x ∷ []) h = absurd (h refl)
not_one go (x ∷ y ∷ xs) h = refl

pub not_two : (go : Judged → Judged → Result Judged Fault) (xs : List Judged) → length xs ≢ 2 → of_two go xs ≡ Ok judged.Fresh
not_two go [] h = refl
not_two go (x ∷ []) h = refl
not_two go (x ∷ y ∷ []) h = absurd (h refl)
not_two go (x ∷ y ∷ z ∷ xs) h = refl

pub not_three : (go : Judged → Judged → Judged → Result Judged Fault) (xs : List Judged) → length xs ≢ 3 → of_three go xs ≡ Ok judged.Fresh
not_three go [] h = refl
not_three go (x ∷ []) h = refl
not_three go (x ∷ y ∷ []) h = refl
not_three go (x ∷ y ∷ z ∷ []) h = absurd (h refl)
not_three go (x ∷ y ∷ z ∷ w ∷ xs) h = refl
