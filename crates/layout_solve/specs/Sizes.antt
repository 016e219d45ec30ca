-- How room is shared along an axis.
use Rattle.std.specs.Prelude.{◌≡◌, ℕ, ℤ, pos, ◌+ℤ◌, ◌-ℤ◌, ◌*ℤ◌, ◌≤ℤ◌, ◌<ℤ◌, ◌≤◌, Bool, if◌then◌else◌, int_le, IsTrue, IsFalse, List, [], ◌∷◌, map}
use Rattle.std.specs.Int.{int_min, int_max}
use Rattle.std.specs.List.{list_all}
use Rattle.slint_base.specs.Numbers.{most_units}
use Rattle.layout_solve.specs.declared.items.Item.{Item}
use Rattle.layout_solve.specs.declared.sizings.Sizing.{Sizing}
use Rattle.layout_solve.specs.declared.sizings.Sizing.TheVariants.{Least, Preferred, Grown, Shrunk}

-- the exact sum of a list's numbers
abbrev pub total : List ℤ → ℤ
total [] = pos 0
total (x ∷ xs) = x +ℤ total xs

-- the weight of an item that counts: where all are even, 1
abbrev pub weight_in : Bool → Item → ℤ
weight_in even item = if even then pos 1 else item.weight

-- the size of an item that grows by k weights, up to its greatest size
abbrev pub grown : Bool → ℕ → Item → ℤ
grown even k item = int_min item.max (item.pref +ℤ pos k *ℤ weight_in even item)

-- the size of an item that shrinks by k units, down to its least size
abbrev pub shrunk : ℕ → Item → ℤ
shrunk k item = int_max item.min (item.pref -ℤ pos k)

-- the size of an item by each way of sizing
abbrev pub size_at : Sizing → Item → ℤ
size_at Least item = item.min
size_at Preferred item = item.pref
size_at (Grown even k) item = grown even k item
size_at (Shrunk k) item = shrunk k item

-- how much more an item may get of a rest: one that grew up to its weight and its greatest size, one that shrank one unit where it isn't below its least size
abbrev pub more_at : Sizing → Item → ℤ
more_at Least item = pos 0
more_at Preferred item = pos 0
more_at (Grown even k) item = int_min (weight_in even item) (item.max -ℤ grown even k item)
more_at (Shrunk k) item = if int_le item.min (item.pref -ℤ pos k) then pos 1 else pos 0

-- the sizes where a rest goes in item order, to each up to what it may get more
abbrev pub shared : Sizing → ℤ → List Item → List ℤ
shared sizing rest [] = []
shared sizing rest (item ∷ items) =
    let given = int_min rest (more_at sizing item) in
    (size_at sizing item +ℤ given) ∷ shared sizing (rest -ℤ given) items

-- all weights are 0
abbrev pub are_weightless : List Item → Bool
are_weightless items = list_all (λ item. int_le item.weight (pos 0)) items

-- the items, each grown by at most the limit's number of weights, fit in the room
pub record FitsGrown (items : List Item) (room : ℤ) (k : ℕ) : Type 0 where
  pub within : k ≤ most_units
  pub fits : total (map (grown (are_weightless items) k) items) ≤ℤ room

-- the items, each shrunk by k units, fit in the room
pub record FitsShrunk (items : List Item) (room : ℤ) (k : ℕ) : Type 0 where
  pub fits : total (map (shrunk k) items) ≤ℤ room

-- the greatest number with a property
pub record IsGreatest (P : ℕ → Type 0) (k : ℕ) : Type 0 where
  pub has : P k
  pub bound : (j : ℕ) → P j → j ≤ k

-- the least number with a property
pub record IsLeast (P : ℕ → Type 0) (k : ℕ) : Type 0 where
  pub has : P k
  pub bound : (j : ℕ) → P j → k ≤ j

-- the sums of the preferred and of the least sizes
abbrev pub preferred_sum : List Item → ℤ
preferred_sum items = total (map (λ item. item.pref) items)

abbrev pub least_sum : List Item → ℤ
least_sum items = total (map (λ item. item.min) items)

-- the way of sizing: by the greatest level at which the items fit where they may grow and there is room for what they prefer, else by the least at which they fit
pub record IsSizing (items : List Item) (room : ℤ) (grow : Bool) (sizing : Sizing) : Type 0 where
  pub stretched : preferred_sum items ≤ℤ room → IsTrue grow → (k : ℕ) × IsGreatest (FitsGrown items room) k × (sizing ≡ Grown (are_weightless items) k)
  pub kept : preferred_sum items ≤ℤ room → IsFalse grow → sizing ≡ Preferred
  pub least : room <ℤ preferred_sum items → room <ℤ least_sum items → sizing ≡ Least
  pub shrunk : room <ℤ preferred_sum items → least_sum items ≤ℤ room → (k : ℕ) × IsLeast (FitsShrunk items room) k × (sizing ≡ Shrunk k)

-- the sizes by a way of sizing, with what it leaves of the room, at least 0, as the rest
abbrev pub divided : Sizing → ℤ → List Item → List ℤ
divided sizing room items = shared sizing (int_max (room -ℤ total (map (size_at sizing) items)) (pos 0)) items

-- how a room is shared among items
abbrev pub SharesRoom : List Item → ℤ → Bool → List ℤ → Type 0
SharesRoom items room grow sizes = (sizing : Sizing) × IsSizing items room grow sizing × (sizes ≡ divided sizing room items)

-- at most one list of sizes shares a room by the rules
abbrev pub SharesOneWay : Type 0
SharesOneWay = (items : List Item) (room : ℤ) (grow : Bool) (a b : List ℤ) → SharesRoom items room grow a → SharesRoom items room grow b → a ≡ b
