-- What is found among fields.
use Rattle.std.proofs.Common.{◌≡◌, ℕ, zero, suc, ◌+◌, ◌<◌, Bool, true, false, List, [], ◌∷◌, map, drop, length, get_or, sym, ◌∙◌, ap, refl, Some, None, Ok, Err}
use Rattle.std.specs.Prelude.{◌&&◌, ◌||◌, if◌then◌else◌, slice_get}
use Rattle.std.specs.List.{list_any}
use Rattle.std.specs.List.Sorted.{IsBinarySearchResult, IsSearchInRange}
use Rattle.std.specs.Option.{is_some}
use Rattle.std.specs.Ordering.{is_eq}
use Rattle.std.specs.Str.{bytes_eq}
use Rattle.std.proofs.lemmas.Cmp.{nat_list_cmp_total, nat_list_eq_equiv}
use Rattle.value_types.specs.declared.types.Ty.{Ty}
use Rattle.value_types.specs.Conversions.{field_named, names_within}
use Rattle.value_types.proofs.ConversionLemmas.{left_at}
use Rattle.element_tables.specs.Rows.{beside, byte_order, is_below, is_rising, named}
use Rattle.element_tables.proofs.Halving.{searched}
use Rattle.element_tables.proofs.Named.{named_by_order}
use Rattle.type_rules.specs.Orders.{is_below_next}

-- what stands behind a place is the first of what is left there
below_next : (name : List ℕ) (fields : List (List ℕ × Ty)) (n : ℕ) → is_below byte_order name (drop n fields) ≡ is_below_next name (slice_get fields n)
below_next name [] zero = refl
below_next name [] (suc n) = refl
below_next name (f ∷ fs) zero = refl
below_next name (f ∷ fs) (suc n) = below_next name fs n

module _ (fields : List (List ℕ × Ty)) (i : ℕ) (f : List ℕ × Ty) (test whole : Bool) (within : i < length fields) (at_f : f ≡ get_or fields i f) (tests : test ≡ is_below_next f.0 (slice_get fields (i + 1)))
    (e : whole ≡ is_rising byte_order (drop i fields)) where
  rising_at : whole ≡ (test && is_rising byte_order (drop (i + 1) fields))
  rising_at = e ∙ ap (λ xs. is_rising byte_order xs) (left_at fields i f within at_f) ∙ ap (λ b. b && is_rising byte_order (drop (i + 1) fields)) (below_next f.0 fields (i + 1) ∙ sym tests)

  pub falls_here : test ≡ false → false ≡ whole
  falls_here n = sym (rising_at ∙ ap (λ b. b && is_rising byte_order (drop (i + 1) fields)) n)

  pub rises_on : test ≡ true → whole ≡ is_rising byte_order (drop (i + 1) fields)
  rises_on y = rising_at ∙ ap (λ b. b && is_rising byte_order (drop (i + 1) fields)) y

-- a field by the order of names
map_same : {X : Type 0} (xs : List X) → map (λ x. x) xs ≡ xs
map_same [] = refl
map_same {X} (x ∷ xs) = ap (λ (ys : List X). x ∷ ys) (map_same xs)

field_named_is : (name : List ℕ) (fields : List (List ℕ × Ty)) → field_named name fields ≡ named name fields
field_named_is name [] = refl
field_named_is name (f ∷ fs) = ap (λ b. (if b then Some f.1 else field_named name fs)) (nat_list_eq_equiv.symm name f.0) ∙ ap (λ o. (if (bytes_eq f.0 name) then Some f.1 else o)) (field_named_is name fs)

by_order : (name : List ℕ) (fields : List (List ℕ × Ty)) → field_named name fields ≡ beside (λ key. is_eq (byte_order key name)) (map (λ (x : List ℕ × Ty). x) fields)
by_order name fields = field_named_is name fields ∙ named_by_order name fields ∙ ap (λ xs. beside (λ key. is_eq (byte_order key name)) xs) (sym (map_same fields))

module _ (name : List ℕ) (fields : List (List ℕ × Ty)) (up : is_rising byte_order fields ≡ true) where
  up_same : is_rising byte_order (map (λ (x : List ℕ × Ty). x) fields) ≡ true
  up_same = ap (λ xs. is_rising byte_order xs) (map_same fields) ∙ up

  pub field_found : (place : ℕ) (f : List ℕ × Ty) → IsSearchInRange (Ok place) (length fields) → IsBinarySearchResult (λ field. byte_order field.0 name) fields (Ok place)
      → Some (get_or fields place f).1 ≡ field_named name fields
  field_found place f within here = sym (by_order name fields ∙ searched nat_list_cmp_total (λ (x : List ℕ × Ty). x) name fields up_same (Ok place) within here f)

  pub field_missing : (place : ℕ) → IsSearchInRange (Err place) (length fields) → IsBinarySearchResult (λ field. byte_order field.0 name) fields (Err place) → None ≡ field_named name fields
  field_missing place within parts = sym (by_order name fields ∙ searched nat_list_cmp_total (λ (x : List ℕ × Ty). x) name fields up_same (Err place) within parts)

-- a name is among those of fields where it has a field
among : (name : List ℕ) (others : List (List ℕ × Ty)) → list_any (λ g. bytes_eq name g.0) others ≡ is_some (field_named name others)
among name [] = refl
among name (g ∷ gs) = by (bytes_eq name g.0) (among name gs)
  where
    by : (b : Bool) → list_any (λ h. bytes_eq name h.0) gs ≡ is_some (field_named name gs) → (b || list_any (λ h. bytes_eq name h.0) gs) ≡ is_some (if b then Some g.1 else field_named name gs)
    by true e = refl
    by false e = e

module _ (fields others : List (List ℕ × Ty)) (i : ℕ) (f : List ℕ × Ty) (test whole : Bool) (within : i < length fields) (at_f : f ≡ get_or fields i f) (tests : test ≡ is_some (field_named f.0 others))
    (e : whole ≡ names_within (drop i fields) others) where
  within_at : whole ≡ (test && names_within (drop (i + 1) fields) others)
  within_at = e ∙ ap (λ xs. names_within xs others) (left_at fields i f within at_f) ∙ ap (λ b. b && names_within (drop (i + 1) fields) others) (among f.0 others ∙ sym tests)

  pub not_among : test ≡ false → false ≡ whole
  not_among n = sym (within_at ∙ ap (λ b. b && names_within (drop (i + 1) fields) others) n)

  pub all_among : test ≡ true → whole ≡ names_within (drop (i + 1) fields) others
  all_among y = within_at ∙ ap (λ b. b && names_within (drop (i + 1) fields) others) y
