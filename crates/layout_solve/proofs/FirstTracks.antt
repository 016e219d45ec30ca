-- Tracks before spanning cells get what they lack.
use Rattle.std.proofs.Common.{◌≡◌, ℕ, Bool, true, false, cond, ◌||◌, List, [], ◌∷◌, map, length, get_or, All, sym, ap, ◌∙◌, refl, subst}
use Rattle.std.specs.List.{AllByRecursion, filter, fold, list_any, range_with_len}
use Rattle.std.proofs.lemmas.List.{get_or_default}
use Rattle.std.proofs.lemmas.List.Elements.{recursion_from_All}
use Rattle.std.proofs.lemmas.List.FromFn.{fill_by_all}
use Rattle.layout_solve.specs.declared.items.Item.{Item}
use Rattle.layout_solve.specs.declared.items.Cell.{Cell}
use Rattle.layout_solve.specs.Items.{IsItem}
use Rattle.layout_solve.specs.Tracks.{IsCell, empty_track, loose_track, least_track, greatest_item, is_alone, reaches, items_alone, first_track, track_of}
use Rattle.layout_solve.proofs.Greatest.{greatest_item-least, empty_track-is, loose_track-is, least_track-is}

-- a list with an element
abbrev is_some_item : List Item → Bool
is_some_item [] = false
is_some_item (x ∷ xs) = true

any_alone : (t : ℕ) (cells : List Cell) → list_any (is_alone t) cells ≡ is_some_item (items_alone t cells)
any_alone t [] = refl
any_alone t (c ∷ cells) = split (is_alone t c) (any_alone t cells)
  where
    split : (b : Bool) → list_any (is_alone t) cells ≡ is_some_item (items_alone t cells)
        → (b || list_any (is_alone t) cells) ≡ is_some_item (map (λ cell. cell.item) (cond b (c ∷ filter (is_alone t) cells) (filter (is_alone t) cells)))
    split true rest = refl
    split false rest = rest

-- the items that stand in a track alone are items
items_alone-are : (n t : ℕ) (cells : List Cell) → AllByRecursion (IsCell n) cells → AllByRecursion IsItem (items_alone t cells)
items_alone-are n t [] all = tt
items_alone-are n t (c ∷ cells) all = split (is_alone t c) (items_alone-are n t cells all.1)
  where
    split : (b : Bool) → AllByRecursion IsItem (items_alone t cells)
        → AllByRecursion IsItem (map (λ cell. cell.item) (cond b (c ∷ filter (is_alone t) cells) (filter (is_alone t) cells)))
    split true rest = (all.0.item_is, rest)
    split false rest = rest

-- raised from the least item, or left loose or empty
begun : (items : List Item) (reached : Bool) → AllByRecursion IsItem items
    → fold greatest_item (cond (is_some_item items) least_track (cond reached loose_track empty_track)) items ≡ track_of items reached
begun [] true all = refl
begun [] false all = refl
begun (x ∷ xs) reached all = ap (λ a. fold greatest_item a xs) (greatest_item-least x all.0)

pub first_track-is : (n t : ℕ) (cells : List Cell) (now : Item) → All (IsCell n) cells
    → now ≡ fold greatest_item (cond (list_any (is_alone t) cells) least_track (cond (list_any (reaches t) cells) loose_track empty_track)) (items_alone t cells)
    → now ≡ first_track cells t
first_track-is n t cells now all e =
    e
    ∙ ap (λ b. fold greatest_item (cond b least_track (cond (list_any (reaches t) cells) loose_track empty_track)) (items_alone t cells)) (any_alone t cells)
    ∙ begun (items_alone t cells) (list_any (reaches t) cells) (items_alone-are n t cells (recursion_from_All (IsCell n) cells all))

pub first_tracks-are : (cells : List Cell) (tracks : List Item) (n : ℕ) → length tracks ≡ n → All (IsCell n) cells
    → ((t : ℕ) → get_or tracks t empty_track ≡ fold greatest_item (cond (list_any (is_alone t) cells) least_track (cond (list_any (reaches t) cells) loose_track empty_track)) (items_alone t cells))
    → tracks ≡ map (first_track cells) (range_with_len 0 n)
first_tracks-are cells tracks n long all each =
    fill_by_all (first_track cells) tracks n empty_track long (λ t below. first_track-is n t cells (get_or tracks t empty_track) all (each t))

-- the tracks that a raise begins with are items
pub marked-are : (cells : List Cell) (tracks : List Item)
    → ((t : ℕ) → get_or tracks t empty_track ≡ cond (list_any (is_alone t) cells) least_track (cond (list_any (reaches t) cells) loose_track empty_track)) → All IsItem tracks
marked-are cells tracks each t d below =
    subst IsItem (get_or_default tracks t empty_track d below) (subst IsItem (sym (each t)) (by (list_any (is_alone t) cells) (list_any (reaches t) cells)))
  where
    by : (a b : Bool) → IsItem (cond a least_track (cond b loose_track empty_track))
    by true b = least_track-is
    by false true = loose_track-is
    by false false = empty_track-is
