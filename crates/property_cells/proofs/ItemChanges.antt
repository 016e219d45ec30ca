-- Which facets change where one item of an array does.
use Rattle.std.proofs.Common.{◌≡◌, ◌≢◌, ℕ, zero, suc, ◌<◌, Bool, true, false, List, [], ◌∷◌, length, Some, ◌⊎◌, inl, inr, ◌↔◌, refl, sym, ap, ◌∙◌, subst, arith}
use Rattle.std.specs.Prelude.{IsTrue, slice_get, MatchBool}
use Rattle.std.proofs.Math.ListN.{set, length-set}
use Rattle.value_types.specs.declared.values.Value.{Value}
use Rattle.value_types.specs.declared.values.Value.TheVariants.{Array, outs-Array}
use Rattle.value_types.specs.declared.facets.Facet.{Facet}
use Rattle.value_types.specs.declared.facets.Facet.TheVariants.{Whole, Length, Row}
use Rattle.property_cells.specs.Changes.{items_in, items_of, Differs, IsOfItem}
use Rattle.property_cells.proofs.Reaching.{same_or_not}

get_set_same : (xs : List Value) (i : ℕ) (v : Value) → i < length xs → slice_get (set xs i v) i ≡ Some v
get_set_same [] i v h = absurd (omega arith)
get_set_same (x ∷ xs) zero v h = refl
get_set_same (x ∷ xs) (suc i) v h = get_set_same xs i v (omega arith)

get_set_other : (xs : List Value) (i j : ℕ) (v : Value) → j ≢ i → slice_get (set xs i v) j ≡ slice_get xs j
get_set_other [] i j v n = refl
get_set_other (x ∷ xs) zero zero v n = absurd (n refl)
get_set_other (x ∷ xs) zero (suc j) v n = refl
get_set_other (x ∷ xs) (suc i) zero v n = refl
get_set_other (x ∷ xs) (suc i) (suc j) v n = get_set_other xs i j v (λ e. n (ap suc e))

set_back : (xs : List Value) (i : ℕ) (v : Value) → slice_get xs i ≡ Some v → set xs i v ≡ xs
set_back [] i v e = refl
set_back (x ∷ xs) zero v e = let same : x ≡ v = cc in ap (λ y. y ∷ xs) (sym same)
set_back (x ∷ xs) (suc i) v e = ap (λ l. x ∷ l) (set_back xs i v e)

-- the items of an array
items_array : (items : List Value) → items_of (Array items) ≡ items
items_array items = ap items_in (outs-Array items)

module _ (items : List Value) (i : ℕ) (v : Value) (d : Bool) (inside : i < length items) (says : MatchBool d (slice_get items i ≢ Some v) (slice_get items i ≡ Some v)) where
  abbrev old : Value
  old = Array items

  abbrev new : Value
  new = Array (set items i v)

  as_items : (j : ℕ) → slice_get (items_of old) j ≡ slice_get (items_of new) j → slice_get items j ≡ slice_get (set items i v) j
  as_items j e = sym (ap (λ l. slice_get l j) (items_array items)) ∙ e ∙ ap (λ l. slice_get l j) (items_array (set items i v))

  of_items : (j : ℕ) → slice_get items j ≡ slice_get (set items i v) j → slice_get (items_of old) j ≡ slice_get (items_of new) j
  of_items j e = ap (λ l. slice_get l j) (items_array items) ∙ e ∙ sym (ap (λ l. slice_get l j) (items_array (set items i v)))

  changed : (b : Bool) → MatchBool b (slice_get items i ≢ Some v) (slice_get items i ≡ Some v) → IsTrue b → slice_get items i ≢ slice_get (set items i v) i
  changed true says t e = says (e ∙ get_set_same items i v inside)
  changed false says t e = cc

  same_or_changed : (b : Bool) → MatchBool b (slice_get items i ≢ Some v) (slice_get items i ≡ Some v) → (IsTrue b) ⊎ (slice_get items i ≡ Some v)
  same_or_changed true says = inl refl
  same_or_changed false says = inr says

  forth : (f : Facet) → IsTrue d × IsOfItem i f → Differs old new false f
  forth Whole h = λ e. changed d says h.0 (as_items i (ap (λ (x : Value). slice_get (items_of x) i) e))
  forth Length h = absurd h.1
  forth (Row j) h = λ e. subst (λ k. slice_get items k ≢ slice_get (set items i v) k) (sym h.1) (changed d says h.0) (as_items j e)

  back : (f : Facet) → Differs old new false f → IsTrue d × IsOfItem i f
  back Whole n = by_case (same_or_changed d says)
    where
      by_case : (IsTrue d) ⊎ (slice_get items i ≡ Some v) → IsTrue d × IsOfItem i Whole
      by_case (inl t) = (t, tt)
      by_case (inr e) = absurd (n (ap Array (sym (set_back items i v e))))
  back Length (inl f) = cc
  back Length (inr n) = absurd (n (ap (λ (l : List Value). length l) (items_array items) ∙ sym (length-set items i v) ∙ sym (ap (λ (l : List Value). length l) (items_array (set items i v)))))
  back (Row j) n = by_case (same_or_not j i) (same_or_changed d says)
    where
      by_case : (j ≡ i) ⊎ (j ≢ i) → (IsTrue d) ⊎ (slice_get items i ≡ Some v) → IsTrue d × IsOfItem i (Row j)
      by_case (inl same) (inl t) = (t, same)
      by_case (inl same) (inr e) = absurd (n (of_items j (subst (λ k. slice_get items k ≡ slice_get (set items i v) k) (sym same) (e ∙ sym (get_set_same items i v inside)))))
      by_case (inr differ) h = absurd (n (of_items j (sym (get_set_other items i j v differ))))

  pub item_differs : (f : Facet) → (IsTrue d × IsOfItem i f) ↔ Differs old new false f
  item_differs f = (forth f, back f)
