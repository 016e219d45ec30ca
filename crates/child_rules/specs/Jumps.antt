-- Where children land, as a table.
use Rattle.std.specs.Prelude.{◌≡◌, ℕ, zero, suc, List, slice_get, Option, Some, None}
use Rattle.element_tables.specs.declared.elements.ElementKind.{ElementKind}
use Rattle.element_tables.specs.declared.elements.ElementKind.TheVariants as element_kind
use Rattle.typed_tree.specs.declared.outlines.ComponentOutline.{ComponentOutline}
use Rattle.typed_tree.specs.declared.outlines.ElementType.{ElementType}
use Rattle.typed_tree.specs.declared.outlines.ElementType.TheVariants as element_type
use Rattle.child_rules.specs.Landing.{landing}

-- where so many steps lead from a type, by the takers of components
abbrev pub walked : ℕ → (ℕ → ElementType) → ElementType → ElementType
walked n taken_by (element_type.BuiltIn kind) = element_type.BuiltIn kind
walked zero taken_by (element_type.Component c) = element_type.Component c
walked (suc n) taken_by (element_type.Component c) = walked n taken_by (taken_by c)

-- where a jump leads, by a table of where it leads from each component
abbrev pub type_or_empty : Option ElementType → ElementType
type_or_empty None = element_type.BuiltIn element_kind.Empty
type_or_empty (Some t) = t

abbrev pub jumped : List ElementType → ElementType → ElementType
jumped jumps (element_type.BuiltIn kind) = element_type.BuiltIn kind
jumped jumps (element_type.Component c) = type_or_empty (slice_get jumps c)

-- a table has where so many steps lead from each component
abbrev pub IsAfter : ℕ → (ℕ → ElementType) → ℕ → Option ElementType → Type 0
IsAfter n taken_by c None = taken_by c ≡ element_type.BuiltIn element_kind.Empty
IsAfter n taken_by c (Some t) = t ≡ walked n taken_by (element_type.Component c)

abbrev pub AreAfter : ℕ → (ℕ → ElementType) → List ElementType → Type 0
AreAfter n taken_by types = (c : ℕ) → IsAfter n taken_by c (slice_get types c)

-- the kind of a type, where no component below it is looked at
abbrev pub kind_of : ElementType → ElementKind
kind_of (element_type.BuiltIn kind) = kind
kind_of (element_type.Component c) = element_kind.Empty

abbrev pub kind_or_empty : Option ElementKind → ElementKind
kind_or_empty None = element_kind.Empty
kind_or_empty (Some kind) = kind

-- a table has the kind of the element in which children of each component's instances land
abbrev pub AreLandings : List ComponentOutline → List ElementKind → Type 0
AreLandings comps kinds = (c : ℕ) → kind_or_empty (slice_get kinds c) ≡ landing comps (element_type.Component c)

abbrev pub landing_by : List ElementKind → ElementType → ElementKind
landing_by kinds (element_type.BuiltIn kind) = kind
landing_by kinds (element_type.Component c) = kind_or_empty (slice_get kinds c)
