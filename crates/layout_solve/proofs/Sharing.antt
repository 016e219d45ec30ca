-- A rest given in item order.
use Rattle.std.proofs.Common.{◌≡◌, ℕ, ◌+◌, ◌*◌, ◌<◌, ◌≤◌, ℤ, pos, ◌+ℤ◌, ◌-ℤ◌, ◌≤ℤ◌, List, [], ◌∷◌, ◌++◌, map, length, get_or, set, take, drop, sym, ap, ◌∙◌, take_all, append-nil, append_assoc, length-set, FitsSigned, to_z, of_z, w64, refl, arith}
use Rattle.std.specs.Int.{w128, int_min, int_max}
use Rattle.std.proofs.lemmas.Int.{ints, clamps, to_z-of_z}
use Rattle.std.proofs.lemmas.List.{take_more_set, at_drop_more, at_drop_all}
use Rattle.slint_base.specs.Numbers.{most_units}
use Rattle.layout_solve.specs.declared.items.Item.{Item}
use Rattle.layout_solve.specs.declared.sizings.Sizing.{Sizing}
use Rattle.layout_solve.specs.Items.{IsItem, IsWithinLimits}
use Rattle.layout_solve.specs.Sizes.{total, shared, divided, size_at, more_at}
use Rattle.layout_solve.proofs.Bounds.{size_within, more_at-is}
use Rattle.layout_solve.proofs.Wide.{IsHeld, kept, kept-is, kept_within, within-is, both, near_fits}

-- the sizes of the first i items are written, and what is left goes to the others
pub record IsSharing (sizing : Sizing) (items : List Item) (rest : ℤ) (out : List ℤ) (left : ℤ) (i : ℕ) : Type 0 where
  pub done : take i out ++ shared sizing left (drop i items) ≡ shared sizing rest items
  pub some : pos 0 ≤ℤ left
  pub high : left ≤ℤ rest
  pub long : length out ≡ length items

pub sharing-none : (sizing : Sizing) (items : List Item) (rest : ℤ) (out : List ℤ) → pos 0 ≤ℤ rest → length out ≡ length items → IsSharing sizing items rest out rest 0
sharing-none sizing items rest out some long = record { done = refl; some = some; high = omega (arith, ints); long = long }

-- what an item is given
pub record IsGift (sizing : Sizing) (item : Item) (left given : ℤ) : Type 0 where
  pub value : given ≡ int_min left (more_at sizing item)
  pub some : pos 0 ≤ℤ given
  pub light : (size_at sizing item +ℤ given) ≤ℤ (item.max +ℤ pos 1)

pub gift-is : (sizing : Sizing) (item : Item) (left given : ℤ) → IsItem item → pos 0 ≤ℤ left → given ≡ int_min left (more_at sizing item) → IsGift sizing item left given
gift-is sizing item left given is some e =
    let m = more_at-is sizing item is in
    record {
      value = e;
      some = omega (arith, ints, clamps, e, m.some, some);
      light = omega (arith, ints, clamps, e, m.fits);
    }

-- a gift is within the limits, but for one unit
pub gift_within : (sizing : Sizing) (item : Item) (given : ℤ) → IsItem item → pos 0 ≤ℤ given → (size_at sizing item +ℤ given) ≤ℤ (item.max +ℤ pos 1) → given ≤ℤ pos (2 * most_units + 1)
gift_within sizing item given is some light =
    let s = size_within sizing item is in omega (arith, ints, light, is.high, s.low)

pub sharing-more : (sizing : Sizing) (items : List Item) (rest : ℤ) (out : List ℤ) (left : ℤ) (i : ℕ) (d : Item) (given size new : ℤ) → IsSharing sizing items rest out left i
    → i < length items → IsGift sizing (get_or items i d) left given → size ≡ size_at sizing (get_or items i d) +ℤ given → new ≡ left -ℤ given
    → IsSharing sizing items rest (set out i size) new (i + 1)
sharing-more sizing items rest out left i d given size new h within g e f = record {
  done =
      ap (λ xs. xs ++ shared sizing new (drop (i + 1) items)) (take_more_set out i size (omega (arith, h.long, within)))
      ∙ append_assoc (take i out) (size ∷ []) (shared sizing new (drop (i + 1) items))
      ∙ ap (λ xs. take i out ++ xs) (sym (at_drop_more (shared sizing left) items i d within ∙ cut))
      ∙ h.done;
  some = omega (arith, ints, clamps, f, g.value, h.some);
  high = omega (arith, ints, f, g.some, h.high);
  long = length-set out i size ∙ h.long;
}
  where
    cut : shared sizing left (get_or items i d ∷ drop (i + 1) items) ≡ size ∷ shared sizing new (drop (i + 1) items)
    cut = rw (sym g.value) (ap (λ x. x ∷ shared sizing (left -ℤ given) (drop (i + 1) items)) (sym e) ∙ ap (λ x. size ∷ shared sizing x (drop (i + 1) items)) (sym f))

pub sharing_all : (sizing : Sizing) (items : List Item) (rest : ℤ) (out : List ℤ) (left : ℤ) (i : ℕ) → IsSharing sizing items rest out left i → length items ≤ i → out ≡ shared sizing rest items
sharing_all sizing items rest out left i h past =
    sym (ap (λ xs. take i out ++ xs) (at_drop_all (shared sizing left) items i past) ∙ append-nil (take i out) ∙ take_all i out (omega (arith, h.long, past))) ∙ h.done

-- what the code has of the room and of what a way of sizing takes of it
pub record IsRoom (sizing : Sizing) (room : ℤ) (items : List Item) (a b : ℤ) : Type 0 where
  pub within : IsWithinLimits room
  pub held : IsHeld (total (map (size_at sizing) items))
  pub given : a ≡ to_z w64 (of_z w64 room)
  pub taken : b ≡ total (map (size_at sizing) items)

room-left : (sizing : Sizing) (room : ℤ) (items : List Item) (a b : ℤ) → IsRoom sizing room items a b → kept a -ℤ kept b ≡ room -ℤ total (map (size_at sizing) items)
room-left sizing room items a b r =
    both (λ x y. x -ℤ y) (kept a) (kept b) room _ (kept_within a room (within-is a room r.within r.given) r.within) (kept-is b _ r.taken r.held)

pub room_fits : (sizing : Sizing) (room : ℤ) (items : List Item) (a b : ℤ) → IsRoom sizing room items a b → FitsSigned w128 (kept a -ℤ kept b)
room_fits sizing room items a b r =
    rw (room-left sizing room items a b r)
    (near_fits _ (omega (arith, ints, r.within.low, r.held.high)) (omega (arith, ints, r.within.high, r.held.low)))

pub divided-by : (sizing : Sizing) (room : ℤ) (items : List Item) (a b m : ℤ) (out : List ℤ) → IsRoom sizing room items a b → m ≡ int_max (kept (kept a -ℤ kept b)) (pos 0)
    → out ≡ shared sizing (kept m) items → out ≡ divided sizing room items
divided-by sizing room items a b m out r e f =
    let sum = total (map (size_at sizing) items) in
    let left : kept (kept a -ℤ kept b) ≡ room -ℤ sum =
    ap kept (room-left sizing room items a b r) ∙ to_z-of_z w128 _ (near_fits _ (omega (arith, ints, r.within.low, r.held.high)) (omega (arith, ints, r.within.high, r.held.low)))
    in
    let most : m ≡ int_max (room -ℤ sum) (pos 0) = e ∙ ap (λ z. int_max z (pos 0)) left in
    f ∙ ap (λ z. shared sizing z items) (ap kept most ∙ to_z-of_z w128 _ (near_fits _ (omega (arith, ints, clamps)) (omega (arith, ints, clamps, r.within.high, r.held.low))))
