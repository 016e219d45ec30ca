-- The tracks of a grid along an axis.
use Rattle.std.specs.Prelude.{◌≤◌, ℕ, ℤ, pos, neg_ℤ, ◌+ℤ◌, ◌-ℤ◌, ◌*ℤ◌, ◌+◌, ◌-◌, Bool, true, false, ◌&&◌, ◌==◌, nat_lt, nat_le, if◌then◌else◌, List, [], ◌∷◌, map, slice_range, slice_set, slice_index_or}
use Rattle.std.specs.Int.{int_min, int_max}
use Rattle.std.specs.List.{filter, fold, list_any, range_with_len}
use Rattle.slint_base.specs.Numbers.{sat, most_units}
use Rattle.layout_solve.specs.declared.items.Item.{Item}
use Rattle.layout_solve.specs.declared.items.Cell.{Cell}
use Rattle.layout_solve.specs.Items.{IsItem}
use Rattle.layout_solve.specs.Sizes.{total}

-- a cell of at least one track, all of them among n
pub record IsCell (n : ℕ) (cell : Cell) : Type 0 where
  pub item_is : IsItem cell.item
  pub spans : 1 ≤ cell.span
  pub inside : cell.first + cell.span ≤ n

-- a track that no cell reaches
abbrev pub empty_track : Item
empty_track = record { min = pos 0; pref = pos 0; max = pos 0; weight = pos 0 }

-- a track that only spanning cells reach
abbrev pub loose_track : Item
loose_track = record { min = pos 0; pref = pos 0; max = pos most_units; weight = pos 1 }

-- the item of which each number is the least that it can be
abbrev pub least_track : Item
least_track = record { min = neg_ℤ (pos most_units); pref = neg_ℤ (pos most_units); max = neg_ℤ (pos most_units); weight = pos 0 }

-- the greatest of each number of two items
abbrev pub greatest_item : Item → Item → Item
greatest_item a b = record { min = int_max a.min b.min; pref = int_max a.pref b.pref; max = int_max a.max b.max; weight = int_max a.weight b.weight }

-- a cell that spans several tracks
abbrev pub is_spanning : Cell → Bool
is_spanning cell = nat_lt 1 cell.span

-- a cell that stands in this track alone
abbrev pub is_alone : ℕ → Cell → Bool
is_alone track cell = (cell.span == 1) && (cell.first == track)

-- a cell that spans this track and others
abbrev pub reaches : ℕ → Cell → Bool
reaches track cell = is_spanning cell && (nat_le cell.first track && nat_lt track (cell.first + cell.span))

-- the items of the cells that stand in a track alone, in text order
abbrev pub items_alone : ℕ → List Cell → List Item
items_alone track cells = map (λ cell. cell.item) (filter (is_alone track) cells)

-- a track by the items that stand in it alone: the greatest of each number; without such items, by whether a spanning cell reaches it
abbrev pub track_of : List Item → Bool → Item
track_of [] false = empty_track
track_of [] true = loose_track
track_of (item ∷ items) reached = fold greatest_item item items

-- a track before spanning cells get what they lack
abbrev pub first_track : List Cell → ℕ → Item
first_track cells track = track_of (items_alone track cells) (list_any (reaches track) cells)

-- what a size of a cell lacks: by so much the sizes of its tracks and the spacings between them are less
abbrev pub lacking : ℤ → List ℤ → ℤ → ℤ
lacking wanted sizes spacings = int_max (wanted -ℤ (total sizes +ℤ spacings)) (pos 0)

-- a track that gets more least and preferred size: its greatest size is raised to the least, and its preferred one brought between them
abbrev pub raised_track : ℤ → ℤ → Item → Item
raised_track more_min more_pref track =
    let least = sat (track.min +ℤ more_min) in
    let most = int_max track.max least in
    record { min = least; pref = int_min (int_max (sat (track.pref +ℤ more_pref)) least) most; max = most; weight = track.weight }

-- the tracks where what a cell's least and preferred size lack is added to its last track
abbrev pub with_last_raised : ℤ → List Item → Cell → List Item
with_last_raised spacing tracks cell =
    let own = slice_range tracks cell.first (cell.first + cell.span) in
    let last = cell.first + cell.span - 1 in
    let spacings = pos (cell.span - 1) *ℤ spacing in
    let more_min = lacking cell.item.min (map (λ track. track.min) own) spacings in
    let more_pref = lacking cell.item.pref (map (λ track. track.pref) own) spacings in
    slice_set tracks last (raised_track more_min more_pref (slice_index_or tracks last empty_track))

-- the tracks after a cell: a spanning one raises its last track
abbrev pub widened : ℤ → List Item → Cell → List Item
widened spacing tracks cell = if is_spanning cell then with_last_raised spacing tracks cell else tracks

-- the tracks of n by the cells in text order
abbrev pub tracks_of : List Cell → ℤ → ℕ → List Item
tracks_of cells spacing n = fold (widened spacing) (map (first_track cells) (range_with_len 0 n)) cells
