-- What numbers, words and fields of a text stand for.
use Rattle.std.specs.Prelude.{ℕ, pos, ◌-ℤ◌, true, false, if◌then◌else◌, List, map, codes, Option, Some, None, option_and_then, nat_lt, slice_get, position, unwrap_or}
use Rattle.std.specs.Option.{option_map}
use Rattle.std.specs.Str.{bytes_eq}
use Rattle.slint_base.specs.Numbers.{to_int, sat}
use Rattle.slint_literals.specs.declared.numbers.Number.{Number}
use Rattle.slint_literals.specs.declared.numbers.Number.TheVariants as number
use Rattle.value_types.specs.declared.enums.EnumNames.{EnumNames}
use Rattle.value_types.specs.declared.types.Ty.{Ty}
use Rattle.value_types.specs.declared.types.Ty.TheOpen as form
use Rattle.value_types.specs.declared.values.Value.{Value}
use Rattle.value_types.specs.declared.values.Value.TheVariants as value
use Rattle.value_types.specs.Conversions.{Form, field_named}
use Rattle.value_types.specs.Defaults.{default_value}
use Rattle.value_reading.specs.ColourNames.{color_named}

-- a written number as a value
abbrev pub number_as : Number → Value
number_as number.Zero = value.Int (pos 0)
number_as (number.Int n) = value.Int n
number_as (number.Float n) = value.Float n
number_as (number.Percent n) = value.Percent n
number_as (number.Length n) = value.Length n
number_as (number.Duration n) = value.Duration n
number_as (number.Angle n) = value.Angle n

-- a written number behind a `-`
abbrev pub negative_as : Number → Value
negative_as number.Zero = value.Int (pos 0)
negative_as (number.Int n) = value.Int (to_int (pos 0 -ℤ n))
negative_as (number.Float n) = value.Float (sat (pos 0 -ℤ n))
negative_as (number.Percent n) = value.Percent (sat (pos 0 -ℤ n))
negative_as (number.Length n) = value.Length (sat (pos 0 -ℤ n))
negative_as (number.Duration n) = value.Duration (sat (pos 0 -ℤ n))
negative_as (number.Angle n) = value.Angle (sat (pos 0 -ℤ n))

-- a truth value by its word
abbrev pub truth_named : List ℕ → Option Value
truth_named word = if bytes_eq word (codes "true") then Some (value.Bool true) else if bytes_eq word (codes "false") then Some (value.Bool false) else None

-- a value of an enum by its place, which is below 2^32
abbrev pub value_at : ℕ → ℕ → Option Value
value_at number place = if nat_lt place 4294967296 then Some (value.Enum number place) else None

-- a value of an enum by its name
abbrev pub value_named : ℕ → List ℕ → Option EnumNames → Option Value
value_named number word None = None
value_named number word (Some names) = option_and_then (value_at number) (position (λ name. bytes_eq name word) names.values)

-- what a word reads as: a truth value, a colour or a value of an enum, by the type
abbrev pub word_in : List EnumNames → List ℕ → Form → Option Value
word_in enums word form.Bool = truth_named word
word_in enums word form.Color = option_map value.Color (color_named word)
word_in enums word (form.Enum number) = value_named number word (slice_get enums number)
word_in enums word _ = None

-- what `E.v` reads as: a value of the enum of that name
abbrev pub named_in : List ℕ → List ℕ → ℕ → Option EnumNames → Option Value
named_in first second number None = None
named_in first second number (Some names) = if bytes_eq names.name first then value_named number second (Some names) else None

abbrev pub pair_in : List EnumNames → List ℕ → List ℕ → Form → Option Value
pair_in enums first second (form.Enum number) = named_in first second number (slice_get enums number)
pair_in enums first second _ = None

-- the fields of a type: those that are written, and defaults for the others
abbrev pub filled_field : List (List ℕ × Value) → List ℕ × Ty → List ℕ × Value
filled_field found field = (field.0, unwrap_or (field_named field.0 found) (default_value field.1))

abbrev pub filled : List (List ℕ × Ty) → List (List ℕ × Value) → List (List ℕ × Value)
filled fields found = map (filled_field found) fields
