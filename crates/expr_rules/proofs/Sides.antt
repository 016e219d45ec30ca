-- Lists that haven't just so many parts.
use Rattle.std.proofs.Common.{◌≡◌, ◌≢◌, List, [], ◌∷◌, length, refl, None}
use Rattle.expr_rules.specs.declared.judged.Judged.{Judged}
use Rattle.expr_rules.specs.OwnSteps.{only, two}

pub only_none : (xs : List Judged) → length xs ≢ 1 → only xs ≡ None
only_none [] h = refl
only_none (x ∷ []) h = absurd (h refl)
only_none (x ∷ y ∷ rest) h = refl

pub two_none : (xs : List Judged) → length xs ≢ 2 → two xs ≡ None
two_none [] h = refl
two_none (x ∷ []) h = refl
two_none (x ∷ y ∷ []) h = absurd (h refl)
two_none (x ∷ y ∷ z ∷ rest) h = refl
