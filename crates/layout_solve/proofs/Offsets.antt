-- The loop that writes offsets.
use Rattle.std.proofs.Common.{◌≡◌, ℕ, ◌+◌, ◌*◌, ◌^◌, ◌<◌, ◌≤◌, ℤ, pos, negsuc, neg_ℤ, ◌+ℤ◌, ◌*ℤ◌, ◌≤ℤ◌, List, length, get_or, set, take, sym, ap, ◌∙◌, map-id, below_more, get_or-set_other, get_or-set_same, length-set, ◌≢◌, FitsSigned, to_z, of_z, w64, arith}
use Rattle.std.specs.Int.{w128}
use Rattle.std.proofs.lemmas.Int.{ints, to_z_pos, to_z-of_z}
use Rattle.std.proofs.lemmas.List.FromFn.{fill_by_all}
use Rattle.slint_base.specs.Numbers.{sat, most_units}
use Rattle.layout_solve.specs.declared.places.Align.{Align}
use Rattle.layout_solve.specs.Items.{IsWithinLimits}
use Rattle.layout_solve.specs.Sizes.{total}
use Rattle.layout_solve.specs.Places.{room_left, shift, offset, offsets}
use Rattle.layout_solve.proofs.Totals.{total-map_more}
use Rattle.layout_solve.proofs.Wide.{kept, near_fits, within_fits}

-- the offsets of the first i items are written, and the sum of what stands before the next is known
pub record IsPlacing (align : Align) (sizes : List ℤ) (room spacing : ℤ) (out : List ℤ) (start : ℤ) (i : ℕ) : Type 0 where
  pub long : length out ≡ length sizes
  pub before : start ≡ total (take i sizes) +ℤ pos i *ℤ spacing
  pub low : neg_ℤ (pos (2 * most_units * i)) ≤ℤ start
  pub high : start ≤ℤ pos (2 * most_units * i)
  pub done : (k : ℕ) → k < i → get_or out k (pos 0) ≡ offset align sizes room spacing k

none-times : (z : ℤ) → pos 0 ≡ pos 0 +ℤ pos 0 *ℤ z
none-times (pos n) = omega (arith, ints)
none-times (negsuc n) = omega (arith, ints)

more-times : (i : ℕ) (z : ℤ) → pos (i + 1) *ℤ z ≡ pos i *ℤ z +ℤ z
more-times i (pos n) = omega (arith, ints)
more-times i (negsuc n) = omega (arith, ints)

pub placing-none : (align : Align) (sizes : List ℤ) (room spacing : ℤ) (out : List ℤ) → length out ≡ length sizes → IsPlacing align sizes room spacing out (pos 0) 0
placing-none align sizes room spacing out long = record {
  long = long;
  before = none-times spacing;
  low = omega (arith, ints);
  high = omega (arith, ints);
  done = λ k below. absurd (omega arith);
}

-- one more item
pub placing-more : (align : Align) (sizes : List ℤ) (room spacing : ℤ) (out : List ℤ) (start : ℤ) (i : ℕ) (written new : ℤ) → IsPlacing align sizes room spacing out start i
    → i < length sizes → IsWithinLimits (get_or sizes i (pos 0)) → IsWithinLimits spacing
    → written ≡ sat (start +ℤ pos (shift align (length sizes) (room_left sizes room) i)) → new ≡ start +ℤ (get_or sizes i (pos 0) +ℤ spacing)
    → IsPlacing align sizes room spacing (set out i written) new (i + 1)
placing-more align sizes room spacing out start i written new h within size gap e f = record {
  long = length-set out i written ∙ h.long;
  before = omega (arith, ints, f, h.before, sum, more-times i spacing);
  low = omega (arith, ints, f, h.low, size.low, gap.low);
  high = omega (arith, ints, f, h.high, size.high, gap.high);
  done = below_more _ i
      (λ k below. let ne : k ≢ i = omega arith in rw get_or-set_other (h.done k below))
      (let lt : i < length out = omega (arith, h.long, within) in rw get_or-set_same (e ∙ ap (λ z. sat (z +ℤ pos (shift align (length sizes) (room_left sizes room) i))) h.before));
}
  where
    sum : total (take (i + 1) sizes) ≡ total (take i sizes) +ℤ get_or sizes i (pos 0)
    sum = ap total (sym (map-id (take (i + 1) sizes))) ∙ total-map_more (λ (z : ℤ). z) sizes i (pos 0) within ∙ ap (λ z. z +ℤ get_or sizes i (pos 0)) (ap total (map-id (take i sizes)))

pub placing_all : (align : Align) (sizes : List ℤ) (room spacing room' spacing' : ℤ) (out : List ℤ) (start : ℤ) (i : ℕ) → IsPlacing align sizes room' spacing' out start i → length sizes ≤ i
    → room' ≡ room → spacing' ≡ spacing → out ≡ offsets align sizes room spacing
placing_all align sizes room spacing room' spacing' out start i h past e f =
    fill_by_all (offset align sizes room' spacing') out (length sizes) (pos 0) h.long (λ k below. h.done k (omega (arith, below, past)))
    ∙ ap (λ z. offsets align sizes z spacing') e
    ∙ ap (offsets align sizes room) f

pub sat_within : (z : ℤ) → IsWithinLimits (sat z)
sat_within (pos n) = record { low = omega (arith, ints); high = omega (arith, ints) }
sat_within (negsuc n) = record { low = omega (arith, ints); high = omega (arith, ints) }

-- what is written for an item
pub written-is : (start : ℤ) (i part s : ℕ) (r : ℤ) → neg_ℤ (pos (2 * most_units * i)) ≤ℤ start → start ≤ℤ pos (2 * most_units * i) → i < 2 ^ 64 → part < 2 ^ 119
    → r ≡ sat (kept (start +ℤ to_z w128 part)) → part ≡ s → to_z w64 (of_z w64 r) ≡ sat (start +ℤ pos s)
written-is start i part s r low high short small e f =
    let wide : to_z w128 part ≡ pos part = to_z_pos w128 part (omega arith) in
    let same : start +ℤ to_z w128 part ≡ start +ℤ pos part = ap (λ z. start +ℤ z) wide in
    let near : FitsSigned w128 (start +ℤ pos part) = near_fits _ (omega (arith, ints, low, short)) (omega (arith, ints, high, short, small)) in
    let value : r ≡ sat (start +ℤ pos part) = e ∙ ap sat (ap kept same ∙ to_z-of_z w128 _ near) in
    ap (λ z. to_z w64 (of_z w64 z)) value ∙ to_z-of_z w64 _ (within_fits _ (sat_within (start +ℤ pos part))) ∙ ap (λ n. sat (start +ℤ pos n)) f
