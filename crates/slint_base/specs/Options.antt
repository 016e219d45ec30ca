-- Lists made of values that may not be there.
use Rattle.std.specs.Prelude.{List, [], ◌∷◌, Option, None, Some}

-- a value in front of a list, where both are there
abbrev pub onto_all : {A : Type 0} → Option A → Option (List A) → Option (List A)
onto_all None others = None
onto_all (Some x) None = None
onto_all (Some x) (Some xs) = Some (x ∷ xs)

-- what a function gives for each item, where it gives something for all
abbrev pub all_of : {A B : Type 0} → (A → Option B) → List A → Option (List B)
all_of f [] = Some []
all_of f (x ∷ xs) = onto_all (f x) (all_of f xs)
