-- The built-in elements and their members.
use Rattle.std.specs.Prelude.{ℕ, suc, ◌==◌, List, [], ◌∷◌, ◌++◌, codes, pos, Option, Some, None, find}
use Rattle.slint_base.specs.declared.numbers.TheConstants.{LIM}
use Rattle.element_tables.specs.declared.elements.ElementKind.{ElementKind}
use Rattle.element_tables.specs.declared.elements.ElementKind.TheVariants as element
use Rattle.element_tables.specs.declared.members.Member.{Member}
use Rattle.element_tables.specs.declared.members.MemberKind.{MemberKind}
use Rattle.element_tables.specs.declared.members.MemberKind.TheVariants.{Property, Callback, Function}
use Rattle.element_tables.specs.declared.members.Mark.TheVariants.{In, Out}
use Rattle.element_tables.specs.declared.members.PropertyDefault.TheVariants as default
use Rattle.element_tables.specs.declared.members.Signature.{Signature}
use Rattle.element_tables.specs.declared.types.BuiltInEnum.TheVariants.{TextHorizontalAlignment, TextVerticalAlignment, TextWrap, TextOverflow, ImageFit, EventResult, LayoutAlignment}
use Rattle.element_tables.specs.declared.types.BuiltInType.{BuiltInType}
use Rattle.element_tables.specs.declared.types.BuiltInType.TheVariants as ty

-- the element of each name
abbrev pub elements : List (List ℕ × ElementKind)
elements = (codes "Empty", element.Empty) ∷ (codes "Window", element.Window) ∷ (codes "Rectangle", element.Rectangle) ∷ (codes "Text", element.Text)
    ∷ (codes "Image", element.Image) ∷ (codes "TouchArea", element.TouchArea) ∷ (codes "FocusScope", element.FocusScope)
    ∷ (codes "HorizontalLayout", element.HorizontalLayout) ∷ (codes "VerticalLayout", element.VerticalLayout) ∷ (codes "GridLayout", element.GridLayout)
    ∷ (codes "Row", element.Row) ∷ []

-- a property that is set from outside and whose default is that of its type
abbrev pub input : BuiltInType → MemberKind
input t = Property t In default.OfType

-- a property that the program sets
abbrev pub output : BuiltInType → MemberKind
output t = Property t Out default.OfType

-- a length, and a weight, whose default the rules on places and sizes give
abbrev pub geometry : MemberKind
geometry = Property ty.Length In default.Geometry

abbrev pub stretch : MemberKind
stretch = Property ty.Float In default.Geometry

-- what takes nothing and gives nothing
abbrev pub plain : Signature
plain = record { parameter = None; result = None }

-- what takes a key event and says whether it was accepted
abbrev pub key_handler : Signature
key_handler = record { parameter = Some ty.KeyEvent; result = Some (ty.Enum EventResult) }

-- the members of every element but Row
abbrev pub common : List (List ℕ × MemberKind)
common = (codes "x", geometry) ∷ (codes "y", geometry) ∷ (codes "width", geometry) ∷ (codes "height", geometry)
    ∷ (codes "min-width", geometry) ∷ (codes "max-width", Property ty.Length In (default.Length LIM)) ∷ (codes "preferred-width", geometry)
    ∷ (codes "min-height", geometry) ∷ (codes "max-height", Property ty.Length In (default.Length LIM)) ∷ (codes "preferred-height", geometry)
    ∷ (codes "horizontal-stretch", stretch) ∷ (codes "vertical-stretch", stretch)
    ∷ (codes "visible", Property ty.Bool In default.True) ∷ (codes "opacity", Property ty.Float In (default.Float (pos 1000000))) ∷ (codes "clip", input ty.Bool)
    ∷ (codes "row", input ty.Int) ∷ (codes "col", input ty.Int) ∷ (codes "rowspan", input ty.Int) ∷ (codes "colspan", input ty.Int) ∷ []

-- the members of an element besides the common ones
abbrev pub window : List (List ℕ × MemberKind)
window = (codes "title", input ty.Str) ∷ (codes "background", input ty.Color) ∷ (codes "icon", input ty.Image) ∷ (codes "no-frame", input ty.Bool)
    ∷ (codes "always-on-top", input ty.Bool) ∷ (codes "default-font-size", input ty.Length) ∷ (codes "default-font-family", input ty.Str) ∷ []

abbrev pub rectangle : List (List ℕ × MemberKind)
rectangle = (codes "background", input ty.Color) ∷ (codes "border-color", input ty.Color) ∷ (codes "border-width", input ty.Length) ∷ (codes "border-radius", input ty.Length) ∷ []

abbrev pub text : List (List ℕ × MemberKind)
text = (codes "text", input ty.Str) ∷ (codes "color", input ty.Color) ∷ (codes "font-size", Property ty.Length In (default.Length (pos 16000)))
    ∷ (codes "font-weight", Property ty.Int In (default.Int (pos 400))) ∷ (codes "font-family", input ty.Str)
    ∷ (codes "horizontal-alignment", input (ty.Enum TextHorizontalAlignment)) ∷ (codes "vertical-alignment", input (ty.Enum TextVerticalAlignment))
    ∷ (codes "wrap", input (ty.Enum TextWrap)) ∷ (codes "overflow", input (ty.Enum TextOverflow)) ∷ []

abbrev pub image : List (List ℕ × MemberKind)
image = (codes "source", input ty.Image) ∷ (codes "image-fit", input (ty.Enum ImageFit)) ∷ (codes "colorize", input ty.Color) ∷ []

abbrev pub touch_area : List (List ℕ × MemberKind)
touch_area = (codes "enabled", Property ty.Bool In default.True) ∷ (codes "pressed", output ty.Bool) ∷ (codes "has-hover", output ty.Bool)
    ∷ (codes "mouse-x", output ty.Length) ∷ (codes "mouse-y", output ty.Length) ∷ (codes "pressed-x", output ty.Length) ∷ (codes "pressed-y", output ty.Length)
    ∷ (codes "clicked", Callback plain) ∷ (codes "moved", Callback plain) ∷ []

abbrev pub focus_scope : List (List ℕ × MemberKind)
focus_scope = (codes "enabled", Property ty.Bool In default.True) ∷ (codes "has-focus", output ty.Bool)
    ∷ (codes "key-pressed", Callback key_handler) ∷ (codes "key-released", Callback key_handler) ∷ (codes "focus", Function plain) ∷ []

-- those of all layouts; the paddings of the sides are given by `padding`
abbrev pub layout : List (List ℕ × MemberKind)
layout = (codes "spacing", input ty.Length) ∷ (codes "padding", input ty.Length)
    ∷ (codes "padding-left", geometry) ∷ (codes "padding-right", geometry) ∷ (codes "padding-top", geometry) ∷ (codes "padding-bottom", geometry) ∷ []

-- those of the layouts along one axis, and of the grid
abbrev pub box : List (List ℕ × MemberKind)
box = (codes "alignment", input (ty.Enum LayoutAlignment)) ∷ []

abbrev pub grid : List (List ℕ × MemberKind)
grid = (codes "spacing-horizontal", geometry) ∷ (codes "spacing-vertical", geometry) ∷ []

-- of the members of an element the common ones, its own, and the further ones of a layout
abbrev pub common_of : ElementKind → List (List ℕ × MemberKind)
common_of element.Row = []
common_of _ = common

abbrev pub own_of : ElementKind → List (List ℕ × MemberKind)
own_of element.Empty = []
own_of element.Window = window
own_of element.Rectangle = rectangle
own_of element.Text = text
own_of element.Image = image
own_of element.TouchArea = touch_area
own_of element.FocusScope = focus_scope
own_of element.HorizontalLayout = layout
own_of element.VerticalLayout = layout
own_of element.GridLayout = layout
own_of element.Row = []

abbrev pub further_of : ElementKind → List (List ℕ × MemberKind)
further_of element.HorizontalLayout = box
further_of element.VerticalLayout = box
further_of element.GridLayout = grid
further_of _ = []

-- the members of an element in order: properties come before callbacks, and these before functions
abbrev pub kinds : ElementKind → List (List ℕ × MemberKind)
kinds of = common_of of ++ own_of of ++ further_of of

-- rows with their numbers, counted from a first one
abbrev pub numbered : ℕ → List (List ℕ × MemberKind) → List (List ℕ × Member)
numbered n [] = []
numbered n (row ∷ rows) = (row.0, record { number = n; kind = row.1 }) ∷ numbered (suc n) rows

-- the members of an element, each with its number
abbrev pub members : ElementKind → List (List ℕ × Member)
members of = numbered 0 (kinds of)

-- the row of a number
abbrev pub row_numbered : ℕ → List (List ℕ × Member) → Option (List ℕ × Member)
row_numbered n rows = find (λ row. row.1.number == n) rows
