-- Steps of chains taken twice.
use Rattle.std.specs.Prelude.{ℕ, List, map, slice_get}
use Rattle.std.specs.Option.{unwrap_or}

-- where one is after as many steps again, by where each member is after so many
abbrev pub again : List ℕ → ℕ → ℕ
again ends e = unwrap_or (slice_get ends e) e

abbrev pub doubled : List ℕ → List ℕ
doubled ends = map (again ends) ends
