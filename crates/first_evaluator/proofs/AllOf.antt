-- What is made of all items of a list, one after the other.
use Rattle.std.proofs.Common.{◌≡◌, List, [], ◌∷◌, ◌++◌, Option, None, Some, option_map, sym, ap, refl}
use Rattle.std.proofs.lemmas.List.{append_assoc}
use Rattle.slint_base.specs.Options.{onto_all}

module _ {B : Type 0} where
  -- what is made of all, given what was made of those before
  abbrev pub behind_all : List B → Option (List B) → Option (List B)
  behind_all done rest = option_map (λ others. done ++ others) rest

  pub behind_all-nil : (o : Option (List B)) → o ≡ behind_all [] o
  behind_all-nil None = refl
  behind_all-nil (Some xs) = refl

  pub behind_all-onto_all : (done : List B) (y : B) (o : Option (List B)) → behind_all done (onto_all (Some y) o) ≡ behind_all (done ++ y ∷ []) o
  behind_all-onto_all done y None = refl
  behind_all-onto_all done y (Some ys) = ap (λ zs. Some zs) (sym (append_assoc done (y ∷ []) ys))
