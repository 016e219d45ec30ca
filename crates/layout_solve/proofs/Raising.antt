-- A track that gets more least and preferred size.
use Rattle.std.proofs.Common.{◌≡◌, ◌^◌, ℤ, pos, ◌+ℤ◌, ◌≤ℤ◌, ap, ◌∙◌, to_z, of_z, w64, arith}
use Rattle.std.specs.Int.{int_min, int_max}
use Rattle.std.proofs.lemmas.Int.{ints, clamps}
use Rattle.slint_base.specs.Numbers.{sat}
use Rattle.layout_solve.specs.declared.items.Item.{Item}
use Rattle.layout_solve.specs.Items.{IsItem, IsWithinLimits}
use Rattle.layout_solve.specs.Tracks.{raised_track}
use Rattle.layout_solve.proofs.Wide.{kept}
use Rattle.layout_solve.proofs.Offsets.{sat_within}
use Rattle.layout_solve.proofs.Greatest.{same_item}
use Rattle.layout_solve.proofs.Growth.{item_max, item_weight}

-- a raised track is an item
pub raised_track-is : (more_min more_pref : ℤ) (track : Item) → IsItem track → IsItem (raised_track more_min more_pref track)
raised_track-is more_min more_pref track is =
    let s = sat_within (track.min +ℤ more_min) in
    let p = sat_within (track.pref +ℤ more_pref) in
    record {
      low = s.low;
      ordered = omega (arith, ints, clamps);
      topped = omega (arith, ints, clamps);
      high = omega (arith, ints, clamps, s.high, is.high);
      weighs = is.weighs;
      light = is.light;
    }

-- the code's sum, brought into the limits
pub more-is : (a x m r : ℤ) → IsWithinLimits x → pos 0 ≤ℤ m → m ≤ℤ pos (2 ^ 119) → a ≡ to_z w64 (of_z w64 x) → r ≡ sat (kept (kept a +ℤ kept m)) → r ≡ sat (x +ℤ m)
more-is a x m r is some small e f =
    let sum : kept (kept a +ℤ kept m) ≡ x +ℤ m = omega (arith, ints, e, is.low, is.high, some, small) in
    f ∙ ap sat sum

-- the code's raised track, by its numbers
pub raised-by : (more_min more_pref : ℤ) (track : Item) (least pref most high between : ℤ) → IsItem track
    → least ≡ sat (track.min +ℤ more_min) → pref ≡ sat (track.pref +ℤ more_pref)
    → most ≡ int_max (to_z w64 (of_z w64 track.max)) (to_z w64 (of_z w64 least))
    → high ≡ int_max (to_z w64 (of_z w64 pref)) (to_z w64 (of_z w64 least))
    → between ≡ int_min (to_z w64 (of_z w64 high)) (to_z w64 (of_z w64 most))
    → ◌≡◌ {A = Item} (record { min = to_z w64 (of_z w64 least); pref = to_z w64 (of_z w64 between); max = to_z w64 (of_z w64 most); weight = to_z w64 (of_z w64 track.weight) }) (raised_track more_min more_pref track)
raised-by more_min more_pref track least pref most high between is a b d e f =
    let s = sat_within (track.min +ℤ more_min) in
    let p = sat_within (track.pref +ℤ more_pref) in
    let m = item_max track is in
    let w = item_weight track is in
    same_item _ _ _ _ _ _ _ _
    (omega (arith, ints, a, s.low, s.high))
    (omega (arith, ints, clamps, a, b, d, e, f, s.low, s.high, p.low, p.high, m.low, m.high))
    (omega (arith, ints, clamps, a, d, s.low, s.high, m.low, m.high))
    (omega (arith, ints, w.low, w.high))
