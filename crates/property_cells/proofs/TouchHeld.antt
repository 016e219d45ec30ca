-- A cell whose array gets another item.
use Rattle.std.proofs.Common.{◌≡◌, ◌≢◌, ℕ, ◌<◌, Bool, false, List, length, get_or, Option, Some, None, ◌↔◌, refl, sym, ap, ◌∙◌, subst, arith}
use Rattle.std.specs.Prelude.{IsTrue, MatchBool, slice_get}
use Rattle.std.proofs.Math.ListN.{set}
use Rattle.value_types.specs.declared.values.Value.{Value}
use Rattle.value_types.specs.declared.values.Value.TheVariants.{Array}
use Rattle.value_types.specs.declared.facets.Facet.{Facet}
use Rattle.property_cells.specs.declared.marks.State.{State}
use Rattle.property_cells.specs.declared.marks.State.TheVariants.{Gone, Invalid, Running, Valid, Assigned, Marked}
use Rattle.property_cells.specs.declared.store.Store.{Store}
use Rattle.property_cells.specs.Changes.{IsOfItem}
use Rattle.property_cells.specs.Marks.{state_at}
use Rattle.property_cells.specs.Net.{Cell, no_cell, cell_in, value_of, array_of, Replaces}
use Rattle.property_cells.specs.Assigning.{array_items}
use Rattle.property_cells.specs.Store.{cell_of, seen, Held}
use Rattle.property_cells.proofs.Seen.{seen_at, seen_inside}
use Rattle.property_cells.proofs.ItemChanges.{item_differs}

-- what holds an array is seen with it
record HoldsArray (x : Cell) (v : Option Value) : Type 0 where
  pub live : x ≢ no_cell
  pub old : Value
  pub is : v ≡ Some old
  pub value : value_of x ≡ Some old
  pub items : array_of x ≡ array_items old

array_is : (t : State) (v : Option Value) (row : ℕ) → row < length (array_of (cell_of t v)) → HoldsArray (cell_of t v) v
array_is Gone v row h = absurd (omega arith)
array_is Invalid v row h = absurd (omega arith)
array_is Running v row h = absurd (omega arith)
array_is Valid (Some v) row h = record { live = λ e. cc; old = v; is = refl; value = refl; items = refl }
array_is Valid None row h = absurd (omega arith)
array_is Assigned (Some v) row h = record { live = λ e. cc; old = v; is = refl; value = refl; items = refl }
array_is Assigned None row h = absurd (omega arith)
array_is Marked v row h = absurd (omega arith)

module _ (s : Store) (K : Held s) (c row : ℕ) (inside : row < length (array_of (cell_in (seen s) c))) where
  holds : HoldsArray (cell_in (seen s) c) (get_or s.values.items c None)
  holds = subst (λ (x : Cell). HoldsArray x (get_or s.values.items c None)) (sym (seen_at s K c))
      (array_is (state_at s.marks.cells.items c) (get_or s.values.items c None) row (subst (λ (x : Cell). row < length (array_of x)) (seen_at s K c) inside))

  pub touched_live : cell_in (seen s) c ≢ no_cell
  touched_live = holds.live

  pub touched_inside : (c < length s.marks.cells.items) × (c < length s.values.items)
  touched_inside = let h = seen_inside s K c holds.live in let r = K.room.values in (h, omega arith)

  pub touched_some : (v : Value) × (get_or s.values.items c None ≡ Some v)
  touched_some = (holds.old, holds.is)

  pub touched_is : (v : Value) → get_or s.values.items c None ≡ Some v → (value_of (cell_in (seen s) c) ≡ Some v) × (array_of (cell_in (seen s) c) ≡ array_items v)
  touched_is v e = let same : holds.old ≡ v = some_same holds.old v (sym holds.is ∙ e) in (holds.value ∙ ap Some same, holds.items ∙ ap array_items same)
    where
      some_same : (a b : Value) → Some a ≡ Some b → a ≡ b
      some_same a b f = cc

-- the facets that change with an item are those that differ between the arrays
pub touch_same : (old : Value) (row : ℕ) (value : Value) (d : Bool) → row < length (array_items old) → MatchBool d (slice_get (array_items old) row ≢ Some value) (slice_get (array_items old) row ≡ Some value) → old ≡ Array (array_items old)
    → (o : Option Value) → o ≡ Some old → (items : List Value) → items ≡ array_items old → (f : Facet) → (IsTrue d × IsOfItem row f) ↔ Replaces o (Array (set items row value)) false f
touch_same old row value d inside says was o eo items ei f =
    subst (λ (x : Option Value × List Value). (IsTrue d × IsOfItem row f) ↔ Replaces x.0 (Array (set x.1 row value)) false f) (λ i. (sym (eo ∙ ap Some was) i, sym ei i)) (item_differs (array_items old) row value d inside says f)
