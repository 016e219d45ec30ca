-- The types that have names without a declaration, and the values of the enums among them.
use Rattle.std.specs.Prelude.{ℕ, List, [], ◌∷◌, codes, Option, Some, None}
use Rattle.element_tables.specs.declared.types.BuiltInEnum.{BuiltInEnum}
use Rattle.element_tables.specs.declared.types.BuiltInEnum.TheVariants.{TextHorizontalAlignment, TextVerticalAlignment, TextWrap, TextOverflow, ImageFit, EventResult, LayoutAlignment}
use Rattle.element_tables.specs.declared.types.BuiltInType.{BuiltInType}
use Rattle.element_tables.specs.declared.types.BuiltInType.TheVariants as ty

-- the type of each name; `brush` and `color` are one type
abbrev pub types : List (List ℕ × BuiltInType)
types = (codes "int", ty.Int) ∷ (codes "float", ty.Float) ∷ (codes "percent", ty.Percent) ∷ (codes "bool", ty.Bool) ∷ (codes "string", ty.Str)
    ∷ (codes "color", ty.Color) ∷ (codes "brush", ty.Color) ∷ (codes "length", ty.Length) ∷ (codes "duration", ty.Duration) ∷ (codes "angle", ty.Angle)
    ∷ (codes "image", ty.Image)
    ∷ (codes "TextHorizontalAlignment", ty.Enum TextHorizontalAlignment) ∷ (codes "TextVerticalAlignment", ty.Enum TextVerticalAlignment)
    ∷ (codes "TextWrap", ty.Enum TextWrap) ∷ (codes "TextOverflow", ty.Enum TextOverflow) ∷ (codes "ImageFit", ty.Enum ImageFit)
    ∷ (codes "EventResult", ty.Enum EventResult) ∷ (codes "LayoutAlignment", ty.Enum LayoutAlignment)
    ∷ (codes "KeyEvent", ty.KeyEvent) ∷ (codes "KeyboardModifiers", ty.KeyboardModifiers) ∷ []

-- the enum among named types
abbrev pub enum_in : Option BuiltInType → Option BuiltInEnum
enum_in (Some (ty.Enum of)) = Some of
enum_in _ = None

-- the values of each enum in order, of which the first is the default
abbrev pub values_of : BuiltInEnum → List (List ℕ)
values_of TextHorizontalAlignment = codes "left" ∷ codes "center" ∷ codes "right" ∷ []
values_of TextVerticalAlignment = codes "top" ∷ codes "center" ∷ codes "bottom" ∷ []
values_of TextWrap = codes "no-wrap" ∷ codes "word-wrap" ∷ []
values_of TextOverflow = codes "clip" ∷ codes "elide" ∷ []
values_of ImageFit = codes "fill" ∷ codes "contain" ∷ codes "cover" ∷ codes "preserve" ∷ []
values_of EventResult = codes "reject" ∷ codes "accept" ∷ []
values_of LayoutAlignment = codes "stretch" ∷ codes "center" ∷ codes "start" ∷ codes "end" ∷ codes "space-between" ∷ codes "space-around" ∷ []
