-- Fields of structs, side by side.
use Rattle.std.proofs.Common.{◌≡◌, ℕ, suc, ◌+◌, ◌<◌, Bool, true, false, not, List, [], ◌∷◌, map, drop, length, get_or, sym, ◌∙◌, ap, refl, Some, None, arith}
use Rattle.std.specs.Prelude.{◌&&◌, ◌||◌, slice_get}
use Rattle.std.specs.Str.{bytes_eq}
use Rattle.std.proofs.Math.Bool.{and-false}
use Rattle.std.proofs.lemmas.Option.{get_or_from_slice_get, slice_get_within, slice_get-get_or}
use Rattle.value_types.specs.declared.types.Ty.{Ty}
use Rattle.value_types.specs.Conversions.{names_within}
use Rattle.value_types.proofs.ConversionLemmas.{left_at, names_within-of_values, names_within-with_values, with_values}
use Rattle.type_rules.specs.Conversions.{all_shared_to, converts, fields_to, same_fields, same_type}

-- fields with the test of what is the same as their types
abbrev pub tested : List (List ℕ × Ty) → List (List ℕ × (Ty → Bool))
tested fields = map (λ field. (field.0, same_type field.1)) fields

-- lists of different lengths
pub lengths_differ : (fs gs : List (List ℕ × Ty)) → (length fs ≡ length gs → ⊥) → same_fields (tested fs) gs ≡ false
lengths_differ [] [] h = absurd (h refl)
lengths_differ [] (g ∷ gs) h = refl
lengths_differ (f ∷ fs) [] h = refl
lengths_differ (f ∷ fs) (g ∷ gs) h =
    ap (λ b. bytes_eq f.0 g.0 && (same_type f.1 g.1 && b)) (lengths_differ fs gs (λ e. h (ap suc e)))
    ∙ ap (λ b. bytes_eq f.0 g.0 && b) (and-false (same_type f.1 g.1)) ∙ and-false (bytes_eq f.0 g.0)

module _ (fs gs : List (List ℕ × Ty)) (i : ℕ) (f g : List ℕ × Ty) (whole : Bool) (within : i < length fs) (at_f : f ≡ get_or fs i f) (at_g : Some g ≡ slice_get gs i)
    (e : whole ≡ same_fields (tested (drop i fs)) (drop i gs)) where
  -- what is left, by the fields at a place
  fields_at : whole ≡ (bytes_eq f.0 g.0 && (same_type f.1 g.1 && same_fields (tested (drop (i + 1) fs)) (drop (i + 1) gs)))
  fields_at =
      e ∙ ap (λ xs. same_fields (tested xs) (drop i gs)) (left_at fs i f within at_f)
      ∙ ap (λ ys. same_fields (tested (f ∷ drop (i + 1) fs)) ys) (left_at gs i g (slice_get_within gs i g (sym at_g)) (sym (get_or_from_slice_get gs i g g (sym at_g))))

  -- names that differ, types that differ, and fields that are the same
  pub names_differ : (r : Bool) → r ≡ not (bytes_eq f.0 g.0) → r ≡ true → false ≡ whole
  names_differ r n t = first r (bytes_eq f.0 g.0) _ n t fields_at
    where
      first : (r a b : Bool) → r ≡ not a → r ≡ true → whole ≡ (a && b) → false ≡ whole
      first r true b n t w = cc
      first r false b n t w = sym w

  pub types_differ : same_type f.1 g.1 ≡ false → false ≡ whole
  types_differ n = sym (fields_at ∙ ap (λ x. bytes_eq f.0 g.0 && (x && same_fields (tested (drop (i + 1) fs)) (drop (i + 1) gs))) n ∙ and-false (bytes_eq f.0 g.0))

  pub fields_same : (r : Bool) → r ≡ not (bytes_eq f.0 g.0) → r ≡ false → same_type f.1 g.1 ≡ true → whole ≡ same_fields (tested (drop (i + 1) fs)) (drop (i + 1) gs)
  fields_same r n t m = first r (bytes_eq f.0 g.0) _ n t fields_at ∙ ap (λ x. x && same_fields (tested (drop (i + 1) fs)) (drop (i + 1) gs)) m
    where
      first : (r a b : Bool) → r ≡ not a → r ≡ false → whole ≡ (a && b) → whole ≡ b
      first r true b n t w = w
      first r false b n t w = cc

-- a place of one list is one of the other
pub no_place : (fs gs : List (List ℕ × Ty)) (i : ℕ) (g : List ℕ × Ty) → length fs ≡ length gs → i < length fs → None ≡ slice_get gs i → ⊥
no_place fs gs i g e within none = let there : slice_get gs i ≡ Some (get_or gs i g) = slice_get-get_or gs i g (omega (arith, e)) in cc

-- two structs, by what is tested of them
module _ (fs gs : List (List ℕ × Ty)) (wide : Bool) (e : wide ≡ (names_within fs gs || names_within gs fs)) where
  tests_wide : (wide && all_shared_to (with_values converts fs) gs) ≡ fields_to (with_values converts fs) gs
  tests_wide =
      ap (λ b. b && all_shared_to (with_values converts fs) gs) (e ∙ ap (λ b. b || names_within gs fs) (sym (names_within-of_values converts gs fs))
      ∙ ap (λ b. names_within (with_values converts fs) gs || b) (sym (names_within-with_values converts gs fs)))

  pub neither_wider : wide ≡ false → false ≡ fields_to (with_values converts fs) gs
  neither_wider n = sym (ap (λ b. b && all_shared_to (with_values converts fs) gs) n) ∙ tests_wide

  pub either_wider : (shared : Bool) → wide ≡ true → shared ≡ all_shared_to (with_values converts fs) gs → shared ≡ fields_to (with_values converts fs) gs
  either_wider shared y s = s ∙ sym (ap (λ b. b && all_shared_to (with_values converts fs) gs) y) ∙ tests_wide
