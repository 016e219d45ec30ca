-- How values are printed.
use Rattle.std.specs.Prelude.{ℕ, zero, suc, ◌+◌, ◌/◌, ◌%◌, ◌^◌, ℤ, pos, negsuc, Bool, true, false, List, [], ◌∷◌, ◌++◌, map, ◌==◌, if◌then◌else◌, codes, Option, Some, None, slice_get}
use Rattle.std.specs.Char.{digit_char}
use Rattle.std.specs.Fmt.{decimal, signed_decimal}
use Rattle.std.specs.List.{flat_map}
use Rattle.slint_literals.specs.Numbers.{pointed}
use Rattle.slint_literals.specs.Printed.{printed_string}
use Rattle.value_types.specs.declared.enums.EnumNames.{EnumNames}
use Rattle.value_types.specs.declared.values.Value.{Value}
use Rattle.value_types.specs.declared.values.Value.TheOpen as shape
use Rattle.value_types.specs.declared.values.Value.TheFolds.{fold-Value}

-- the digits of so many parts of 10 ^ places, up to the last that isn't 0
unfoldable pub fraction_digits : ℕ → ℕ → List ℕ
fraction_digits zero parts = []
fraction_digits (suc places) parts = if parts == 0 then [] else (48 + parts / 10 ^ places) ∷ fraction_digits places (parts % 10 ^ places)

-- so many parts of 10 ^ places as a decimal without zeros at its end
abbrev pub printed_size : ℕ → ℕ → List ℕ
printed_size places n = decimal (n / 10 ^ places) ++ pointed (fraction_digits places (n % 10 ^ places))

-- the same of a number below zero too
abbrev pub printed_parts : ℕ → ℤ → List ℕ
printed_parts places (pos n) = printed_size places n
printed_parts places (negsuc n) = 45 ∷ printed_size places (suc n)

-- floats and percents count in millionths, lengths and angles in thousandths
abbrev pub printed_millionths : ℤ → List ℕ
printed_millionths = printed_parts 6

abbrev pub printed_thousandths : ℤ → List ℕ
printed_thousandths = printed_parts 3

-- a byte as two hexadecimal digits
abbrev pub two_digits : ℕ → List ℕ
two_digits byte = digit_char (byte / 16) ∷ digit_char (byte % 16) ∷ []

-- a colour as `#rrggbbaa`: red, green, blue and alpha from the highest byte on
abbrev pub printed_color : ℕ → List ℕ
printed_color color = 35 ∷ (two_digits (color / 2 ^ 24) ++ (two_digits (color / 2 ^ 16 % 256) ++ (two_digits (color / 2 ^ 8 % 256) ++ two_digits (color % 256))))

-- `true` or `false`
abbrev pub printed_bool : Bool → List ℕ
printed_bool true = codes "true"
printed_bool false = codes "false"

-- the name of an enum and of one of its values, joined by a point; nothing for one that isn't there
abbrev pub value_name : EnumNames → Option (List ℕ) → List ℕ
value_name names None = []
value_name names (Some name) = names.name ++ 46 ∷ name

abbrev pub enum_name : Option EnumNames → ℕ → List ℕ
enum_name None v = []
enum_name (Some names) v = value_name names (slice_get names.values v)

abbrev pub printed_enum : List EnumNames → ℕ → ℕ → List ℕ
printed_enum enums number v = enum_name (slice_get enums number) v

-- texts with `, ` between them
abbrev pub listed : List (List ℕ) → List ℕ
listed [] = []
listed (text ∷ texts) = text ++ flat_map (λ t. 44 ∷ 32 ∷ t) texts

-- items as `[a, b]`
abbrev pub printed_array : List (List ℕ) → List ℕ
printed_array items = 91 ∷ (listed items ++ 93 ∷ [])

-- a field as `name: value`
abbrev pub printed_field : List ℕ × List ℕ → List ℕ
printed_field field = field.0 ++ 58 ∷ 32 ∷ field.1

-- fields as `{ a: 1, b: 2 }`, and `{ }` without fields
abbrev pub printed_struct : List (List ℕ × List ℕ) → List ℕ
printed_struct [] = codes "{ }"
printed_struct (field ∷ fields) = 123 ∷ 32 ∷ (listed (map printed_field (field ∷ fields)) ++ 32 ∷ 125 ∷ [])

-- an image as `@image-url(..)` round its path as a string
abbrev pub printed_image : List ℕ → List ℕ
printed_image path = codes "@image-url(" ++ (printed_string path ++ 41 ∷ [])

-- a value of which the parts stand printed; what no expression has, and what gives no value, are printed as nothing
abbrev pub printing_step : List EnumNames → shape.Value-F (List ℕ) → List ℕ
printing_step enums shape.Void = []
printing_step enums (shape.Int n) = signed_decimal n
printing_step enums (shape.Float n) = printed_millionths n
printing_step enums (shape.Percent n) = printed_millionths n ++ codes "%"
printing_step enums (shape.Bool b) = printed_bool b
printing_step enums (shape.Str t) = printed_string t
printing_step enums (shape.Color c) = printed_color c
printing_step enums (shape.Length n) = printed_thousandths n ++ codes "px"
printing_step enums (shape.Duration n) = signed_decimal n ++ codes "ms"
printing_step enums (shape.Angle n) = printed_thousandths n ++ codes "deg"
printing_step enums (shape.Image path) = printed_image path
printing_step enums (shape.Enum number v) = printed_enum enums number v
printing_step enums (shape.Struct fields) = printed_struct fields
printing_step enums (shape.Array items) = printed_array items
printing_step enums (shape.Keys keys items) = []
printing_step enums (shape.Places places) = []

-- a value as it is printed
abbrev pub printed : List EnumNames → Value → List ℕ
printed enums = fold-Value (List ℕ) (printing_step enums)
