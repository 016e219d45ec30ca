-- The built-in types as types of the language. The enums of a source begin with the built-in ones, in this order.
use Rattle.std.specs.Prelude.{ℕ, List, [], ◌∷◌, map, codes}
use Rattle.element_tables.specs.declared.types.BuiltInEnum.{BuiltInEnum}
use Rattle.element_tables.specs.declared.types.BuiltInEnum.TheVariants.{TextHorizontalAlignment, TextVerticalAlignment, TextWrap, TextOverflow, ImageFit, EventResult, LayoutAlignment}
use Rattle.element_tables.specs.declared.types.BuiltInType.{BuiltInType}
use Rattle.element_tables.specs.declared.types.BuiltInType.TheVariants as built_in
use Rattle.element_tables.specs.Types.{values_of}
use Rattle.value_types.specs.declared.enums.EnumNames.{EnumNames}
use Rattle.value_types.specs.declared.types.Ty.{Ty}
use Rattle.value_types.specs.declared.types.Ty.TheVariants as ty

-- the number of each built-in enum
abbrev pub enum_number : BuiltInEnum → ℕ
enum_number TextHorizontalAlignment = 0
enum_number TextVerticalAlignment = 1
enum_number TextWrap = 2
enum_number TextOverflow = 3
enum_number ImageFit = 4
enum_number EventResult = 5
enum_number LayoutAlignment = 6

abbrev pub enum_name : BuiltInEnum → List ℕ
enum_name TextHorizontalAlignment = codes "TextHorizontalAlignment"
enum_name TextVerticalAlignment = codes "TextVerticalAlignment"
enum_name TextWrap = codes "TextWrap"
enum_name TextOverflow = codes "TextOverflow"
enum_name ImageFit = codes "ImageFit"
enum_name EventResult = codes "EventResult"
enum_name LayoutAlignment = codes "LayoutAlignment"

abbrev pub enum_names : BuiltInEnum → EnumNames
enum_names of = record { name = enum_name of; values = values_of of }

-- the enums that each source has, by their numbers
abbrev pub built_in_enums : List EnumNames
built_in_enums = map enum_names (TextHorizontalAlignment ∷ TextVerticalAlignment ∷ TextWrap ∷ TextOverflow ∷ ImageFit ∷ EventResult ∷ LayoutAlignment ∷ [])

abbrev pub modifiers : Ty
modifiers = ty.Struct ((codes "alt", ty.Bool) ∷ (codes "control", ty.Bool) ∷ (codes "meta", ty.Bool) ∷ (codes "shift", ty.Bool) ∷ [])

abbrev pub key_event : Ty
key_event = ty.Struct ((codes "modifiers", modifiers) ∷ (codes "repeat", ty.Bool) ∷ (codes "text", ty.Str) ∷ [])

-- the type that a built-in type is
abbrev pub built_in_ty : BuiltInType → Ty
built_in_ty built_in.Int = ty.Int
built_in_ty built_in.Float = ty.Float
built_in_ty built_in.Percent = ty.Percent
built_in_ty built_in.Bool = ty.Bool
built_in_ty built_in.Str = ty.Str
built_in_ty built_in.Color = ty.Color
built_in_ty built_in.Length = ty.Length
built_in_ty built_in.Duration = ty.Duration
built_in_ty built_in.Angle = ty.Angle
built_in_ty built_in.Image = ty.Image
built_in_ty (built_in.Enum of) = ty.Enum (enum_number of)
built_in_ty built_in.KeyEvent = key_event
built_in_ty built_in.KeyboardModifiers = modifiers
