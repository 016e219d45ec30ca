-- Names in lists of names.
use Rattle.std.proofs.Common.{◌≡◌, ℕ, true, List, slice_get, Some, get_or}
use Rattle.std.specs.Str.{bytes_eq}
use Rattle.std.proofs.lemmas.List.Folds.{list_any_at}
use Rattle.std.proofs.lemmas.Option.{slice_get_within, get_or_from_slice_get}
use Rattle.std.proofs.lemmas.Slice.Eq.{bytes_eq-Decides}
use Rattle.first_evaluator.specs.Bindings.{has_name}

-- a text equals itself
pub bytes_eq-same : (xs ys : List ℕ) → xs ≡ ys → bytes_eq xs ys ≡ true
bytes_eq-same xs ys e = (bytes_eq-Decides xs ys).1 e

-- the name at a place is one of the names
pub has_name-at : (names : List (List ℕ)) (place : ℕ) (name : List ℕ) → slice_get names place ≡ Some name → has_name names name ≡ true
has_name-at names place name at =
    list_any_at (λ other. bytes_eq other name) names place name (slice_get_within names place name at)
    (bytes_eq-same (get_or names place name) name (get_or_from_slice_get names place name name at))
