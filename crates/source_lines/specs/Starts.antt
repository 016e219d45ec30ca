-- Where the lines of a file start, and the places that this tells.
use Rattle.std.specs.Prelude.{ℕ, ◌+◌, ◌-◌, min, suc, List, [], ◌∷◌, ◌==◌, if◌then◌else◌, nat_le}
use Rattle.std.specs.List.{count_by}
use Rattle.slint_base.specs.declared.places.Place.{Place}

-- the bytes behind each line feed, counted from a number on
abbrev pub starts_behind : ℕ → List ℕ → List ℕ
starts_behind at [] = []
starts_behind at (b ∷ bytes) = if b == 10 then suc at ∷ starts_behind (suc at) bytes else starts_behind (suc at) bytes

-- the first byte of each line
abbrev pub line_starts : List ℕ → List ℕ
line_starts bytes = 0 ∷ starts_behind 0 bytes

-- the last of these numbers that is no greater
abbrev pub last_upto : ℕ → List ℕ → ℕ → ℕ
last_upto found [] at = found
last_upto found (start ∷ starts) at = if nat_le start at then last_upto start starts at else found

-- the most that a column is
abbrev pub most_column : ℕ
most_column = 4294967295

-- the place of a byte, by the starts of the lines; a column that is too great stays at the greatest
abbrev pub place_by : List ℕ → ℕ → Place
place_by starts at = record { line = count_by (λ start. nat_le start at) starts; column = min (at - last_upto 0 starts at + 1) most_column }
