-- The values of the types that a property can have.
use Rattle.std.specs.Prelude.{◌≡◌, ◌<◌, ◌≤◌, ◌^◌, ℕ, ℤ, pos, negsuc, Bool, true, false, ◌&&◌, ◌==◌, not, List, [], ◌∷◌, ◌++◌, length, unsigned_abs, slice_get, Some, None}
use Rattle.std.specs.List.{list_all}
use Rattle.std.specs.Str.{IsUtf8}
use Rattle.slint_base.specs.Numbers.{greatest_int, most_units}
use Rattle.slint_base.specs.Texts.{most_text_bytes}
use Rattle.value_types.specs.declared.enums.EnumNames.{EnumNames}
use Rattle.value_types.specs.declared.types.Ty.{Ty}
use Rattle.value_types.specs.declared.types.Ty.TheVariants as ty
use Rattle.value_types.specs.declared.values.Value.{Value}
use Rattle.value_types.specs.declared.values.Value.TheVariants as value
use Rattle.value_types.specs.Conversions.{field_named}
use Rattle.value_reading.specs.Parts.{is_word_start, is_word_byte}

-- a number between the ends of `int`
abbrev pub IsInt : ℤ → Type 0
IsInt (pos n) = n ≤ greatest_int
IsInt (negsuc n) = n ≤ greatest_int

-- a name: a word in the spelling in which names are compared, without an underscore behind its first byte
abbrev pub is_name_byte : ℕ → Bool
is_name_byte b = is_word_byte b && not (b == 95)

abbrev pub is_name : List ℕ → Bool
is_name [] = false
is_name (b ∷ s) = is_word_start b && list_all is_name_byte s

-- an enum: its name and those of its values are names, and no two values have one name
pub record IsEnum (names : EnumNames) : Type 0 where
  pub named : is_name names.name ≡ true
  pub values_named : (v : ℕ) (name : List ℕ) → slice_get names.values v ≡ Some name → is_name name ≡ true
  pub values_differ : (v w : ℕ) (name : List ℕ) → slice_get names.values v ≡ Some name → slice_get names.values w ≡ Some name → v ≡ w

mutual
  -- a value of a type that a property can have, within the ends of the type
  pub data HasType (enums : List EnumNames) : Ty → Value → Type 0 where
    int_typed : (n : ℤ) → IsInt n → HasType enums ty.Int (value.Int n)
    float_typed : (n : ℤ) → unsigned_abs n ≤ most_units → HasType enums ty.Float (value.Float n)
    percent_typed : (n : ℤ) → unsigned_abs n ≤ most_units → HasType enums ty.Percent (value.Percent n)
    bool_typed : (b : Bool) → HasType enums ty.Bool (value.Bool b)
    string_typed : (t : List ℕ) → IsUtf8 t → length t ≤ most_text_bytes → HasType enums ty.Str (value.Str t)
    color_typed : (c : ℕ) → c < 2 ^ 32 → HasType enums ty.Color (value.Color c)
    length_typed : (n : ℤ) → unsigned_abs n ≤ most_units → HasType enums ty.Length (value.Length n)
    duration_typed : (n : ℤ) → unsigned_abs n ≤ most_units → HasType enums ty.Duration (value.Duration n)
    angle_typed : (n : ℤ) → unsigned_abs n ≤ most_units → HasType enums ty.Angle (value.Angle n)
    image_typed : (path : List ℕ) → IsUtf8 path → length path ≤ most_text_bytes → HasType enums ty.Image (value.Image path)
    enum_typed : (number v : ℕ) (names : EnumNames) (name : List ℕ) → slice_get enums number ≡ Some names → IsEnum names → slice_get names.values v ≡ Some name → v < 2 ^ 32 → HasType enums (ty.Enum number) (value.Enum number v)
    array_typed : (item : Ty) (vs : List Value) → HaveType enums item vs → HasType enums (ty.Array item) (value.Array vs)
    struct_typed : (fields : List (List ℕ × Ty)) (vs : List (List ℕ × Value)) → FieldsHaveType enums [] fields vs → HasType enums (ty.Struct fields) (value.Struct vs)

  -- values of one type
  pub data HaveType (enums : List EnumNames) : Ty → List Value → Type 0 where
    none_typed : (item : Ty) → HaveType enums item []
    more_typed : (item : Ty) (v : Value) (vs : List Value) → HasType enums item v → HaveType enums item vs → HaveType enums item (v ∷ vs)

  -- the values of fields, in the order of the fields, behind those that stand before: each has a name that isn't among those before, and
  -- a value of its type
  pub data FieldsHaveType (enums : List EnumNames) : List (List ℕ × Value) → List (List ℕ × Ty) → List (List ℕ × Value) → Type 0 where
    no_fields_typed : (before : List (List ℕ × Value)) → FieldsHaveType enums before [] []
    more_fields_typed : (before : List (List ℕ × Value)) (name : List ℕ) (t : Ty) (v : Value) (fields : List (List ℕ × Ty)) (vs : List (List ℕ × Value))
        → is_name name ≡ true → field_named name before ≡ None → HasType enums t v → FieldsHaveType enums (before ++ (name, v) ∷ []) fields vs
        → FieldsHaveType enums before ((name, t) ∷ fields) ((name, v) ∷ vs)
