-- What a contract sees of `Deps`: its pairs in order of linking, each a reader and a point, how many more it has room for, and below which numbers readers and points are.
use Rattle.std.specs.Prelude.{◌≡◌, ℕ, ◌≤◌, ◌⊎◌, ◌==◌, not, List, [], ◌∷◌, map, filter}

pub record Pairs : Type 0 where
  pub pairs : List (ℕ × ℕ)
  pub spare : ℕ
  pub readers : ℕ
  pub points : ℕ

-- no pair, no room, and no reader and no point yet
abbrev pub no_pairs : Pairs
no_pairs = record { pairs = []; spare = 0; readers = 0; points = 0 }

-- x is one of the list
abbrev pub In : {A : Type 0} → A → List A → Type 0
In x [] = ⊥
In x (y ∷ ys) = (x ≡ y) ⊎ In x ys

-- the readers of a point, in order of linking
abbrev pub readers_of : ℕ → List (ℕ × ℕ) → List ℕ
readers_of point pairs = map (λ x. x.0) (filter (λ x. x.1 == point) pairs)

-- the points of a reader, in order of linking
abbrev pub points_of : ℕ → List (ℕ × ℕ) → List ℕ
points_of reader pairs = map (λ x. x.1) (filter (λ x. x.0 == reader) pairs)

-- the pairs of all other readers, in the same order
abbrev pub drop_reader : ℕ → List (ℕ × ℕ) → List (ℕ × ℕ)
drop_reader reader pairs = filter (λ x. not (x.0 == reader)) pairs

-- the pairs of all other points, in the same order
abbrev pub drop_point : ℕ → List (ℕ × ℕ) → List (ℕ × ℕ)
drop_point point pairs = filter (λ x. not (x.1 == point)) pairs

-- the same readers and points are admitted
pub record SameEnds (old new : Pairs) : Type 0 where
  pub readers : new.readers ≡ old.readers
  pub points : new.points ≡ old.points

-- no fewer readers and points are admitted, and the pairs and the room are the same
pub record MoreEnds (old new : Pairs) : Type 0 where
  pub pairs : new.pairs ≡ old.pairs
  pub spare : new.spare ≡ old.spare
  pub readers : old.readers ≤ new.readers
  pub points : old.points ≤ new.points
