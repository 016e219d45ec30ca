-- Which types convert to which.
use Rattle.std.specs.Prelude.{ℕ, Bool, true, false, ◌==◌, ◌&&◌, ◌||◌, List, [], ◌∷◌, Option, Some, None}
use Rattle.std.specs.List.{list_all}
use Rattle.std.specs.Str.{bytes_eq}
use Rattle.value_types.specs.declared.types.Ty.{Ty, out-Ty}
use Rattle.value_types.specs.declared.types.Ty.TheOpen as form
use Rattle.value_types.specs.declared.types.Ty.TheFolds.{fold-Ty}
use Rattle.value_types.specs.Conversions.{Form, field_named, names_within}

-- the types without parts
abbrev pub is_void : Form → Bool
is_void form.Void = true
is_void _ = false

abbrev pub is_zero : Form → Bool
is_zero form.Zero = true
is_zero _ = false

abbrev pub is_int : Form → Bool
is_int form.Int = true
is_int _ = false

abbrev pub is_float : Form → Bool
is_float form.Float = true
is_float _ = false

abbrev pub is_percent : Form → Bool
is_percent form.Percent = true
is_percent _ = false

abbrev pub is_bool : Form → Bool
is_bool form.Bool = true
is_bool _ = false

abbrev pub is_text : Form → Bool
is_text form.Str = true
is_text _ = false

abbrev pub is_color : Form → Bool
is_color form.Color = true
is_color _ = false

abbrev pub is_length : Form → Bool
is_length form.Length = true
is_length _ = false

abbrev pub is_duration : Form → Bool
is_duration form.Duration = true
is_duration _ = false

abbrev pub is_angle : Form → Bool
is_angle form.Angle = true
is_angle _ = false

abbrev pub is_image : Form → Bool
is_image form.Image = true
is_image _ = false

abbrev pub is_empty : Form → Bool
is_empty form.Empty = true
is_empty _ = false

abbrev pub is_enum : ℕ → Form → Bool
is_enum n (form.Enum m) = n == m
is_enum n _ = false

-- a literal of zeros is a number of any type, or its text
abbrev pub zero_to : Form → Bool
zero_to form.Zero = true
zero_to form.Int = true
zero_to form.Float = true
zero_to form.Percent = true
zero_to form.Str = true
zero_to form.Length = true
zero_to form.Duration = true
zero_to form.Angle = true
zero_to _ = false

-- an int is a float, and a float is cut to an int; either has a text
abbrev pub number_to : Form → Bool
number_to form.Int = true
number_to form.Float = true
number_to form.Str = true
number_to _ = false

-- a percent is a float
abbrev pub percent_to : Form → Bool
percent_to form.Percent = true
percent_to form.Float = true
percent_to _ = false

-- `[]` is every array
abbrev pub empty_to : Form → Bool
empty_to form.Empty = true
empty_to (form.Array item) = true
empty_to _ = false

-- an array by its items
abbrev pub array_to : (Ty → Bool) → Form → Bool
array_to item (form.Array other) = item other
array_to item _ = false

-- a field that both have, by its type
abbrev pub shared_to : Option Ty → (Ty → Bool) → Bool
shared_to None field = true
shared_to (Some other) field = field other

-- the fields that both have convert
abbrev pub all_shared_to : List (List ℕ × (Ty → Bool)) → List (List ℕ × Ty) → Bool
all_shared_to fields others = list_all (λ f. shared_to (field_named f.0 others) f.1) fields

-- a struct gains fields or loses some, but not both, and the fields that both have convert
abbrev pub fields_to : List (List ℕ × (Ty → Bool)) → List (List ℕ × Ty) → Bool
fields_to fields others = (names_within fields others || names_within others fields) && all_shared_to fields others

abbrev pub struct_to : List (List ℕ × (Ty → Bool)) → Form → Bool
struct_to fields (form.Struct others) = fields_to fields others
struct_to fields _ = false

-- what a type converts to, of which the parts stand with what they convert to
abbrev pub converting : form.Ty-F (Ty → Bool) → Form → Bool
converting form.Void other = is_void other
converting form.Zero other = zero_to other
converting form.Int other = number_to other
converting form.Float other = number_to other
converting form.Percent other = percent_to other
converting form.Bool other = is_bool other
converting form.Str other = is_text other
converting form.Color other = is_color other
converting form.Length other = is_length other
converting form.Duration other = is_duration other
converting form.Angle other = is_angle other
converting form.Image other = is_image other
converting (form.Enum n) other = is_enum n other
converting (form.Struct fields) other = struct_to fields other
converting (form.Array item) other = array_to item other
converting form.Empty other = empty_to other

-- a type converts to another one
abbrev pub converts : Ty → Ty → Bool
converts = fold-Ty (Ty → Bool) (λ t other. converting t (out-Ty other))

-- fields that are the same, name by name
abbrev pub same_fields : List (List ℕ × (Ty → Bool)) → List (List ℕ × Ty) → Bool
same_fields [] [] = true
same_fields (f ∷ fs) (g ∷ gs) = bytes_eq f.0 g.0 && (f.1 g.1 && same_fields fs gs)
same_fields _ _ = false

abbrev pub struct_is : List (List ℕ × (Ty → Bool)) → Form → Bool
struct_is fields (form.Struct others) = same_fields fields others
struct_is fields _ = false

abbrev pub being : form.Ty-F (Ty → Bool) → Form → Bool
being form.Void other = is_void other
being form.Zero other = is_zero other
being form.Int other = is_int other
being form.Float other = is_float other
being form.Percent other = is_percent other
being form.Bool other = is_bool other
being form.Str other = is_text other
being form.Color other = is_color other
being form.Length other = is_length other
being form.Duration other = is_duration other
being form.Angle other = is_angle other
being form.Image other = is_image other
being (form.Enum n) other = is_enum n other
being (form.Struct fields) other = struct_is fields other
being (form.Array item) other = array_to item other
being form.Empty other = is_empty other

-- a type is another one
abbrev pub same_type : Ty → Ty → Bool
same_type = fold-Ty (Ty → Bool) (λ t other. being t (out-Ty other))
