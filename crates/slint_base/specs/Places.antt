-- The line and the column of a byte in a file.
use Rattle.std.specs.Prelude.{ℕ, ◌+◌, List, length, take, ◌==◌}
use Rattle.std.specs.List.{after_last, count_by}
use Rattle.slint_base.specs.declared.places.Place.{Place}

-- the place of the byte with this number, counted from 0: lines are counted from 1 by line feeds, a column is 1 plus the bytes since the line's start
abbrev pub place_of : List ℕ → ℕ → Place
place_of bytes at = record {
  line = count_by (λ b. b == 10) (take at bytes) + 1;
  column = length (after_last (λ b. b == 10) (take at bytes)) + 1;
}
