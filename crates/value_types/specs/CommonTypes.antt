-- The type that two types have in common.
use Rattle.std.specs.Prelude.{ℕ, ◌==◌, if◌then◌else◌, List, map, Option, Some, None}
use Rattle.std.specs.Option.{option_map}
use Rattle.value_types.specs.declared.types.Ty.{Ty, out-Ty}
use Rattle.value_types.specs.declared.types.Ty.TheOpen as form
use Rattle.value_types.specs.declared.types.Ty.TheFolds.{fold-Ty, map-Ty}
use Rattle.value_types.specs.declared.types.Ty.TheViews.{roll-Ty}
use Rattle.value_types.specs.declared.types.Ty.TheVariants as ty
use Rattle.value_types.specs.Conversions.{Form, all_of, field_named, names_within}

-- what a literal of zeros and another type have in common: the type, if such a literal converts to it
abbrev pub zero_with : Form → Option Ty
zero_with form.Zero = Some ty.Zero
zero_with form.Int = Some ty.Int
zero_with form.Float = Some ty.Float
zero_with form.Percent = Some ty.Float
zero_with form.Str = Some ty.Str
zero_with form.Length = Some ty.Length
zero_with form.Duration = Some ty.Duration
zero_with form.Angle = Some ty.Angle
zero_with _ = None

-- what an int, a float and a text have in common with another type
abbrev pub int_with : Form → Option Ty
int_with form.Zero = Some ty.Int
int_with form.Int = Some ty.Int
int_with form.Float = Some ty.Float
int_with form.Percent = Some ty.Float
int_with form.Str = Some ty.Str
int_with _ = None

abbrev pub float_with : Form → Option Ty
float_with form.Zero = Some ty.Float
float_with form.Int = Some ty.Float
float_with form.Float = Some ty.Float
float_with form.Percent = Some ty.Float
float_with form.Str = Some ty.Str
float_with _ = None

abbrev pub text_with : Form → Option Ty
text_with form.Zero = Some ty.Str
text_with form.Int = Some ty.Str
text_with form.Float = Some ty.Str
text_with form.Percent = Some ty.Str
text_with form.Str = Some ty.Str
text_with _ = None

-- two percents have percent in common, and else a percent counts as a float
abbrev pub percent_with : Form → Option Ty
percent_with form.Percent = Some ty.Percent
percent_with other = float_with other

-- other types have themselves in common, and units a literal of zeros too
abbrev pub void_with : Form → Option Ty
void_with form.Void = Some ty.Void
void_with _ = None

abbrev pub bool_with : Form → Option Ty
bool_with form.Bool = Some ty.Bool
bool_with _ = None

abbrev pub color_with : Form → Option Ty
color_with form.Color = Some ty.Color
color_with _ = None

abbrev pub length_with : Form → Option Ty
length_with form.Length = Some ty.Length
length_with form.Zero = Some ty.Length
length_with _ = None

abbrev pub duration_with : Form → Option Ty
duration_with form.Duration = Some ty.Duration
duration_with form.Zero = Some ty.Duration
duration_with _ = None

abbrev pub angle_with : Form → Option Ty
angle_with form.Angle = Some ty.Angle
angle_with form.Zero = Some ty.Angle
angle_with _ = None

abbrev pub image_with : Form → Option Ty
image_with form.Image = Some ty.Image
image_with _ = None

abbrev pub enum_with : ℕ → Form → Option Ty
enum_with number (form.Enum other) = if number == other then Some (ty.Enum number) else None
enum_with number _ = None

-- `[]` and an array have the array in common
abbrev pub empty_with : Form → Option Ty
empty_with form.Empty = Some ty.Empty
empty_with (form.Array item) = Some (ty.Array item)
empty_with _ = None

-- a type, and what it has in common with others
pub record Side : Type 0 where
  pub itself : Ty
  pub join : Ty → Option Ty

-- an array has with another the array of what the items have in common
abbrev pub array_with : Side → Form → Option Ty
array_with side (form.Array item) = option_map ty.Array (side.join item)
array_with side form.Empty = Some (ty.Array side.itself)
array_with side _ = None

-- a field of a struct with all fields of another: what both have in common, where both have it
abbrev pub joined_left : Side → Option Ty → Option Ty
joined_left side None = Some side.itself
joined_left side (Some other) = side.join other

abbrev pub joined_right : Ty → Option Side → Option Ty
joined_right other None = Some other
joined_right other (Some side) = side.join other

-- a name beside a type that is there
abbrev pub named : List ℕ → Option Ty → Option (List ℕ × Ty)
named name found = option_map (λ t. (name, t)) found

abbrev pub left_field : List (List ℕ × Ty) → List ℕ × Side → Option (List ℕ × Ty)
left_field others s = named s.0 (joined_left s.1 (field_named s.0 others))

abbrev pub right_field : List (List ℕ × Side) → List ℕ × Ty → Option (List ℕ × Ty)
right_field sides other = named other.0 (joined_right other.1 (field_named other.0 sides))

-- two structs, of which one has all fields of the other: the struct of the fields that either has
abbrev pub structs_with : List (List ℕ × Side) → List (List ℕ × Ty) → Option Ty
structs_with sides fields = if names_within fields sides then option_map ty.Struct (all_of (map (left_field fields) sides))
    else if names_within sides fields then option_map ty.Struct (all_of (map (right_field sides) fields))
    else None

abbrev pub struct_with : List (List ℕ × Side) → Form → Option Ty
struct_with sides (form.Struct fields) = structs_with sides fields
struct_with sides _ = None

-- what a type, of which the parts stand with what they have in common with others, has in common with another
abbrev pub join_step : form.Ty-F Side → Form → Option Ty
join_step form.Void other = void_with other
join_step form.Zero other = zero_with other
join_step form.Int other = int_with other
join_step form.Float other = float_with other
join_step form.Percent other = percent_with other
join_step form.Bool other = bool_with other
join_step form.Str other = text_with other
join_step form.Color other = color_with other
join_step form.Length other = length_with other
join_step form.Duration other = duration_with other
join_step form.Angle other = angle_with other
join_step form.Image other = image_with other
join_step (form.Enum number) other = enum_with number other
join_step (form.Struct sides) other = struct_with sides other
join_step (form.Array side) other = array_with side other
join_step form.Empty other = empty_with other

-- a type beside what it has in common with others, by its parts
abbrev pub side_step : form.Ty-F Side → Side
side_step f = record { itself = roll-Ty (map-Ty Side Ty (λ s. s.itself) f); join = λ other. join_step f (out-Ty other) }

abbrev pub side : Ty → Side
side = fold-Ty Side side_step

-- the type that two types have in common, if there is one
abbrev pub common : Ty → Ty → Option Ty
common a b = (side a).join b

-- fields, each with what its type has in common with others
abbrev pub sides : List (List ℕ × Ty) → List (List ℕ × Side)
sides fields = map (λ field. (field.0, side field.1)) fields
