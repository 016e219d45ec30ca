-- The greatest of each number of items.
use Rattle.std.proofs.Common.{◌≡◌, ℕ, ◌<◌, ℤ, cond, eqb, List, length, get_or, set, sym, ◌∙◌, ⊎_elim, refl, get_or-set_same, get_or-set_other, to_z, of_z, w64, arith}
use Rattle.std.specs.Int.{int_max}
use Rattle.std.proofs.lemmas.Int.{ints, clamps}
use Rattle.std.proofs.lemmas.Bool.{cases_eq, eq-eqb, ne_eqb}
use Rattle.layout_solve.specs.declared.items.Item.{Item}
use Rattle.layout_solve.specs.Items.{IsItem, IsWithinLimits}
use Rattle.layout_solve.specs.Tracks.{empty_track, loose_track, least_track, greatest_item}

-- items with the same numbers are the same
pub same_item : (a b c d a' b' c' d' : ℤ) → a ≡ a' → b ≡ b' → c ≡ c' → d ≡ d'
    → ◌≡◌ {A = Item} (record { min = a; pref = b; max = c; weight = d }) (record { min = a'; pref = b'; max = c'; weight = d' })
same_item a b c d a' b' c' d' p q r s = rw p (rw q (rw r (rw s refl)))

-- the code's greatest of two numbers
pub most-is : (m a b : ℤ) → IsWithinLimits a → IsWithinLimits b → m ≡ int_max (to_z w64 (of_z w64 a)) (to_z w64 (of_z w64 b)) → to_z w64 (of_z w64 m) ≡ int_max a b
most-is m a b x y e = omega (arith, ints, clamps, e, x.low, x.high, y.low, y.high)

pub greatest_item-is : (a b : Item) → IsItem a → IsItem b → IsItem (greatest_item a b)
greatest_item-is a b p q = record {
  low = omega (arith, ints, clamps, p.low, q.low);
  ordered = omega (arith, ints, clamps, p.ordered, q.ordered);
  topped = omega (arith, ints, clamps, p.topped, q.topped);
  high = omega (arith, ints, clamps, p.high, q.high);
  weighs = omega (arith, ints, clamps, p.weighs, q.weighs);
  light = omega (arith, ints, clamps, p.light, q.light);
}

pub empty_track-is : IsItem empty_track
empty_track-is = record { low = omega (arith, ints); ordered = omega (arith, ints); topped = omega (arith, ints); high = omega (arith, ints); weighs = omega (arith, ints); light = omega (arith, ints) }

pub loose_track-is : IsItem loose_track
loose_track-is = record { low = omega (arith, ints); ordered = omega (arith, ints); topped = omega (arith, ints); high = omega (arith, ints); weighs = omega (arith, ints); light = omega (arith, ints) }

pub least_track-is : IsItem least_track
least_track-is = record { low = omega (arith, ints); ordered = omega (arith, ints); topped = omega (arith, ints); high = omega (arith, ints); weighs = omega (arith, ints); light = omega (arith, ints) }

-- the least item is below each
pub greatest_item-least : (a : Item) → IsItem a → greatest_item least_track a ≡ a
greatest_item-least a is =
    same_item _ _ _ _ _ _ _ _
    (omega (arith, ints, clamps, is.low))
    (omega (arith, ints, clamps, is.low, is.ordered))
    (omega (arith, ints, clamps, is.low, is.ordered, is.topped))
    (omega (arith, ints, clamps, is.weighs))

-- a track that is raised, seen at each place
pub topped-set : (tracks : List Item) (first t : ℕ) (item v d : Item) → first < length tracks → v ≡ greatest_item (get_or tracks first d) item
    → get_or (set tracks first v) t d ≡ cond (eqb first t) (greatest_item (get_or tracks t d) item) (get_or tracks t d)
topped-set tracks first t item v d within e =
    ⊎_elim
    (λ same. rw (eq-eqb first t same) (rw (sym same) (get_or-set_same tracks first v d within ∙ e)))
    (λ other. rw (ne_eqb first t other) (get_or-set_other tracks first t v d (λ f. other (sym f))))
    (cases_eq first t)
