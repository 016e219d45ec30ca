-- Lists of what values are converted to.
use Rattle.std.proofs.Common.{◌≡◌, ℕ, suc, ◌+◌, ◌<◌, Bool, true, false, List, [], ◌∷◌, ◌++◌, map, drop, length, get_or, sym, ◌∙◌, ap, refl, Option, Some, None, append_assoc, drop-cons, add-one}
use Rattle.std.specs.Prelude.{if◌then◌else◌, ◌&&◌, ◌||◌}
use Rattle.std.specs.List.{list_any}
use Rattle.std.specs.Option.{option_map}
use Rattle.std.specs.Str.{bytes_eq}
use Rattle.value_types.specs.declared.types.Ty.{Ty}
use Rattle.value_types.specs.declared.values.Value.{Value}
use Rattle.value_types.specs.declared.values.Value.TheVariants as value
use Rattle.value_types.specs.Conversions.{all_of, converted, field_from, field_in, fields_in, field_named, names_within}

-- the fields with something else in the place of their values
abbrev pub with_values : {X Y : Type 0} → (X → Y) → List (List ℕ × X) → List (List ℕ × Y)
with_values f fields = map (λ field. (field.0, f field.1)) fields

pub list_any-with_values : {X Y : Type 0} (f : X → Y) (name : List ℕ) (fields : List (List ℕ × X))
    → list_any (λ g. bytes_eq name g.0) (with_values f fields) ≡ list_any (λ g. bytes_eq name g.0) fields
list_any-with_values f name [] = refl
list_any-with_values f name (g ∷ gs) = ap (λ b. bytes_eq name g.0 || b) (list_any-with_values f name gs)

pub names_within-with_values : {X Y Z : Type 0} (f : X → Y) (wanted : List (List ℕ × Z)) (fields : List (List ℕ × X))
    → names_within wanted (with_values f fields) ≡ names_within wanted fields
names_within-with_values f [] fields = refl
names_within-with_values f (w ∷ ws) fields =
    ap (λ b. b && names_within ws (with_values f fields)) (list_any-with_values f w.0 fields) ∙ ap (λ b. list_any (λ g. bytes_eq w.0 g.0) fields && b) (names_within-with_values f ws fields)

pub names_within-of_values : {X Y Z : Type 0} (f : X → Y) (wanted : List (List ℕ × Z)) (fields : List (List ℕ × X))
    → names_within (with_values f fields) wanted ≡ names_within fields wanted
names_within-of_values f wanted [] = refl
names_within-of_values f wanted (g ∷ gs) = ap (λ b. list_any (λ w. bytes_eq g.0 w.0) wanted && b) (names_within-of_values f wanted gs)

pub field_named-with_values : {X Y : Type 0} (f : X → Y) (name : List ℕ) (fields : List (List ℕ × X))
    → field_named name (with_values f fields) ≡ option_map f (field_named name fields)
field_named-with_values f name [] = refl
field_named-with_values {X} {Y} f name (g ∷ gs) =
    ap (λ rest. (if bytes_eq name g.0 then Some (f g.1) else rest)) (field_named-with_values f name gs) ∙ chosen (bytes_eq name g.0)
  where
    chosen : (b : Bool) → (if b then Some (f g.1) else option_map f (field_named name gs)) ≡ option_map f (if b then Some g.1 else field_named name gs)
    chosen true = refl
    chosen false = refl

-- a field, by what the code looks up
field_of : (name : List ℕ) (ty : Ty) (fields : List (List ℕ × Value)) (found made : Option Value)
    → found ≡ field_named name fields → made ≡ field_from (option_map converted found) ty → field_from (field_named name (with_values converted fields)) ty ≡ made
field_of name ty fields found made e g = ap (λ o. field_from o ty) (field_named-with_values converted name fields ∙ ap (λ o. option_map converted o) (sym e)) ∙ sym g

pub field_none : (wanted : List ℕ × Ty) (fields : List (List ℕ × Value)) (found made : Option Value)
    → found ≡ field_named wanted.0 fields → made ≡ field_from (option_map converted found) wanted.1 → made ≡ None → field_in (with_values converted fields) wanted ≡ None
field_none wanted fields found made e g n = ap (λ o. option_map (λ v. (wanted.0, v)) o) (field_of wanted.0 wanted.1 fields found made e g ∙ n)

pub field_some : (wanted : List ℕ × Ty) (fields : List (List ℕ × Value)) (found made : Option Value) (name : List ℕ) (v : Value)
    → found ≡ field_named wanted.0 fields → made ≡ field_from (option_map converted found) wanted.1 → made ≡ Some v → name ≡ wanted.0 → field_in (with_values converted fields) wanted ≡ Some (name, v)
field_some wanted fields found made name v e g n same =
    ap (λ o. option_map (λ v. (wanted.0, v)) o) (field_of wanted.0 wanted.1 fields found made e g ∙ n) ∙ ap (λ (k : List ℕ). Some (k, v)) (sym same)

tested : (fields : List (List ℕ × Value)) (wanted : List (List ℕ × Ty))
    → (names_within (with_values converted fields) wanted || names_within wanted (with_values converted fields)) ≡ (names_within fields wanted || names_within wanted fields)
tested fields wanted = ap (λ b. b || names_within wanted (with_values converted fields)) (names_within-of_values converted wanted fields) ∙ ap (λ b. names_within fields wanted || b) (names_within-with_values converted wanted fields)

-- what is left of a list, at a place
pub left_at : {X : Type 0} (xs : List X) (i : ℕ) (x : X) → i < length xs → x ≡ get_or xs i x → drop i xs ≡ x ∷ drop (i + 1) xs
left_at xs i x within e = rw (add-one, drop-cons xs i x) (ap (λ y. y ∷ drop (suc i) xs) (sym e))

-- one more that is there, or one that isn't
pub all_more : {X Y : Type 0} (f : X → Option Y) (xs : List X) (i : ℕ) (x : X) (y : Y) (made more : List Y) (whole : Option (List Y)) → i < length xs → x ≡ get_or xs i x → f x ≡ Some y → more ≡ made ++ y ∷ []
    → whole ≡ option_map (λ rest. made ++ rest) (all_of (map f (drop i xs))) → whole ≡ option_map (λ rest. more ++ rest) (all_of (map f (drop (i + 1) xs)))
all_more {X} {Y} f xs i x y made more whole within at_x fx m e =
    e ∙ ap (λ ys. option_map (λ rest. made ++ rest) (all_of (map f ys))) (left_at xs i x within at_x) ∙ ap (λ o. option_map (λ rest. made ++ rest) (all_of (o ∷ map f (drop (i + 1) xs)))) fx ∙ joined (all_of (map f (drop (i + 1) xs)))
    ∙ ap (λ zs. option_map (λ rest. zs ++ rest) (all_of (map f (drop (i + 1) xs)))) (sym m)
  where
    joined : (o : Option (List Y)) → option_map (λ rest. made ++ rest) (option_map (λ ys. y ∷ ys) o) ≡ option_map (λ rest. (made ++ y ∷ []) ++ rest) o
    joined None = refl
    joined (Some ys) = ap Some (sym (append_assoc made (y ∷ []) ys))

pub all_none : {X Y : Type 0} (f : X → Option Y) (xs : List X) (i : ℕ) (x : X) (made : List Y) (whole : Option (List Y)) → i < length xs → x ≡ get_or xs i x → f x ≡ None
    → whole ≡ option_map (λ rest. made ++ rest) (all_of (map f (drop i xs))) → None ≡ whole
all_none f xs i x made whole within at_x fx e =
    sym (e ∙ ap (λ ys. option_map (λ rest. made ++ rest) (all_of (map f ys))) (left_at xs i x within at_x) ∙ ap (λ o. option_map (λ rest. made ++ rest) (all_of (o ∷ map f (drop (i + 1) xs)))) fx)

-- a struct that neither widens nor narrows, and one that does
pub fields_apart : (fields : List (List ℕ × Value)) (wanted : List (List ℕ × Ty)) (test : Bool) → test ≡ (names_within fields wanted || names_within wanted fields) → test ≡ false
    → None ≡ fields_in (with_values converted fields) wanted
fields_apart fields wanted test e f = sym (ap (λ b. (if b then option_map value.Struct (all_of (map (λ field. field_in (with_values converted fields) field) wanted)) else None)) (tested fields wanted ∙ sym e ∙ f))

pub fields_alike : (fields : List (List ℕ × Value)) (wanted : List (List ℕ × Ty)) (test : Bool) (made : List (List ℕ × Value)) → test ≡ (names_within fields wanted || names_within wanted fields) → test ≡ true
    → Some made ≡ all_of (map (λ field. field_in (with_values converted fields) field) wanted) → Some (value.Struct made) ≡ fields_in (with_values converted fields) wanted
fields_alike fields wanted test made e f g =
    sym (ap (λ b. (if b then option_map value.Struct (all_of (map (λ field. field_in (with_values converted fields) field) wanted)) else None)) (tested fields wanted ∙ sym e ∙ f) ∙ ap (λ o. option_map value.Struct o) (sym g))
