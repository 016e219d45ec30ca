-- What types have in common.
use Rattle.std.proofs.Common.{◌≡◌, ℕ, ◌+◌, ◌<◌, Bool, true, false, List, [], ◌∷◌, map, drop, length, get_or, sym, ◌∙◌, ap, refl, subst, Option, Some, None}
use Rattle.std.specs.Prelude.{if◌then◌else◌, slice_get}
use Rattle.std.specs.Option.{option_map}
use Rattle.std.specs.Str.{bytes_eq}
use Rattle.std.proofs.lemmas.Option.{slice_get_read}
use Rattle.value_types.specs.declared.types.Ty.{Ty}
use Rattle.value_types.specs.declared.types.Ty.TheOpen as form
use Rattle.value_types.specs.declared.types.Ty.TheFolds.{map-Ty, fold-roll-Ty, ind-Ty}
use Rattle.value_types.specs.declared.types.Ty.TheViews.{roll-Ty}
use Rattle.value_types.specs.declared.types.Ty.TheVariants as ty
use Rattle.value_types.specs.Conversions.{all_of, field_named, names_within}
use Rattle.value_types.specs.CommonTypes.{Side, side, side_step, sides, common, named, joined_left, joined_right, left_field, right_field, structs_with}
use Rattle.value_types.proofs.ConversionLemmas.{names_within-with_values, names_within-of_values, field_named-with_values, left_at}

-- the field that a walk along the fields comes to
pub found_at : {X : Type 0} (name : List ℕ) (fields : List (List ℕ × X)) (i : ℕ) (f : List ℕ × X) → i < length fields → f ≡ get_or fields i f → bytes_eq name f.0 ≡ true
    → field_named name fields ≡ field_named name (drop i fields) → field_named name fields ≡ option_map (λ (g : List ℕ × X). g.1) (slice_get fields i)
found_at {X} name fields i f within at_f same e =
    e ∙ ap (field_named name) (left_at fields i f within at_f) ∙ ap (λ b. (if b then Some f.1 else field_named name (drop (i + 1) fields))) same
    ∙ sym (ap (option_map (λ (g : List ℕ × X). g.1)) (slice_get_read fields (length fields) i f refl within at_f))

-- a type beside what it has in common with others is the type
abbrev Known : Type 0
Known = (t : Ty) × ((side t).itself ≡ t)

abbrev itself_of : List ℕ × Side → List ℕ × Ty
itself_of f = (f.0, f.1.itself)

abbrev side_of : List ℕ × Ty → List ℕ × Side
side_of f = (f.0, side f.1)

abbrev known_of : List ℕ × Known → List ℕ × Ty
known_of f = (f.0, f.1.0)

fields_itself : (fields : List (List ℕ × Known)) → map itself_of (map side_of (map known_of fields)) ≡ map known_of fields
fields_itself [] = refl
fields_itself (f ∷ fs) = ap (λ (t : Ty). (f.0, t) ∷ map itself_of (map side_of (map known_of fs))) f.1.1 ∙ ap (λ (xs : List (List ℕ × Ty)). (f.0, f.1.0) ∷ xs) (fields_itself fs)

itself_step : (y : form.Ty-F ((t : Ty) × ((side t).itself ≡ t))) → map-Ty Side Ty (λ s. s.itself) (map-Ty Ty Side side (map-Ty ((t : Ty) × ((side t).itself ≡ t)) Ty (λ e. e.0) y)) ≡ map-Ty ((t : Ty) × ((side t).itself ≡ t)) Ty (λ e. e.0) y
itself_step form.Void = refl
itself_step form.Zero = refl
itself_step form.Int = refl
itself_step form.Float = refl
itself_step form.Percent = refl
itself_step form.Bool = refl
itself_step form.Str = refl
itself_step form.Color = refl
itself_step form.Length = refl
itself_step form.Duration = refl
itself_step form.Angle = refl
itself_step form.Image = refl
itself_step (form.Enum number) = refl
itself_step (form.Struct fields) = ap form.Struct (fields_itself fields)
itself_step (form.Array item) = ap form.Array item.1
itself_step form.Empty = refl

pub itself_is : (t : Ty) → (side t).itself ≡ t
itself_is = ind-Ty (λ t. (side t).itself ≡ t) (λ x y is.
    ap (λ s. s.itself) (fold-roll-Ty Side side_step x) ∙ ap roll-Ty (subst (λ z. map-Ty Side Ty (λ s. s.itself) (map-Ty Ty Side side z) ≡ z) is (itself_step y)))

-- the field at a place
pub field_read : (name : List ℕ) (fields : List (List ℕ × Ty)) (place : ℕ) (f : List ℕ × Ty) → place < length fields → f ≡ get_or fields place f
    → field_named name fields ≡ option_map (λ (g : List ℕ × Ty). g.1) (slice_get fields place) → field_named name fields ≡ Some f.1
field_read name fields place f within at_f e = e ∙ ap (option_map (λ (g : List ℕ × Ty). g.1)) (slice_get_read fields (length fields) place f refl within at_f)

-- a field of the first struct
pub left_none : (field : List ℕ × Ty) (others : List (List ℕ × Ty)) → field_named field.0 others ≡ None → left_field others (field.0, side field.1) ≡ Some (field.0, field.1)
left_none field others e = ap (λ o. named field.0 (joined_left (side field.1) o)) e ∙ ap (λ (t : Ty). Some (field.0, t)) (itself_is field.1)

pub left_some : (field : List ℕ × Ty) (others : List (List ℕ × Ty)) (other : Ty) → field_named field.0 others ≡ Some other → left_field others (field.0, side field.1) ≡ named field.0 (common field.1 other)
left_some field others other e = ap (λ o. named field.0 (joined_left (side field.1) o)) e

-- a field of the second struct
pub right_none : (fields : List (List ℕ × Ty)) (other : List ℕ × Ty) → field_named other.0 fields ≡ None → right_field (sides fields) other ≡ Some (other.0, other.1)
right_none fields other e = ap (λ o. named other.0 (joined_right other.1 o)) (field_named-with_values side other.0 fields ∙ ap (option_map side) e)

pub right_some : (fields : List (List ℕ × Ty)) (other : List ℕ × Ty) (field : Ty) → field_named other.0 fields ≡ Some field → right_field (sides fields) other ≡ named other.0 (common field other.1)
right_some fields other field e = ap (λ o. named other.0 (joined_right other.1 o)) (field_named-with_values side other.0 fields ∙ ap (option_map side) e)

-- two structs, by what the code tests
pub structs_left : (fields others : List (List ℕ × Ty)) (t : Bool) (found : Option Ty) → t ≡ names_within others fields → t ≡ true
    → found ≡ option_map ty.Struct (all_of (map (left_field others) (sides fields))) → found ≡ structs_with (sides fields) others
structs_left fields others t found e h g =
    g ∙ sym (ap (λ b. (if b then option_map ty.Struct (all_of (map (left_field others) (sides fields)))
    else if names_within (sides fields) others then option_map ty.Struct (all_of (map (right_field (sides fields)) others)) else None)) (names_within-with_values side others fields ∙ sym e ∙ h))

structs_later : (fields others : List (List ℕ × Ty)) (t u v : Bool) → t ≡ names_within others fields → t ≡ false → u ≡ names_within fields others → u ≡ v
    → structs_with (sides fields) others ≡ (if v then option_map ty.Struct (all_of (map (right_field (sides fields)) others)) else None)
structs_later fields others t u v e h f k =
    ap (λ b. (if b then option_map ty.Struct (all_of (map (left_field others) (sides fields)))
    else if names_within (sides fields) others then option_map ty.Struct (all_of (map (right_field (sides fields)) others)) else None)) (names_within-with_values side others fields ∙ sym e ∙ h)
    ∙ ap (λ b. (if b then option_map ty.Struct (all_of (map (right_field (sides fields)) others)) else None)) (names_within-of_values side others fields ∙ sym f ∙ k)

pub structs_right : (fields others : List (List ℕ × Ty)) (t u : Bool) (found : Option Ty) → t ≡ names_within others fields → t ≡ false → u ≡ names_within fields others → u ≡ true
    → found ≡ option_map ty.Struct (all_of (map (right_field (sides fields)) others)) → found ≡ structs_with (sides fields) others
structs_right fields others t u found e h f k g = g ∙ sym (structs_later fields others t u true e h f k)

pub structs_none : (fields others : List (List ℕ × Ty)) (t u : Bool) → t ≡ names_within others fields → t ≡ false → u ≡ names_within fields others → u ≡ false → None ≡ structs_with (sides fields) others
structs_none fields others t u e h f k = sym (structs_later fields others t u false e h f k)
