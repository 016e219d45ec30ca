-- What components are built on, as tables.
use Rattle.std.specs.Prelude.{◌≡◌, ℕ, zero, suc, List, map, slice_get, Option, Some, None}
use Rattle.element_tables.specs.declared.elements.ElementKind.{ElementKind}
use Rattle.element_tables.specs.declared.elements.ElementKind.TheVariants as element_kind
use Rattle.typed_tree.specs.declared.bases.Bases.{Bases}
use Rattle.typed_tree.specs.declared.outlines.ComponentOutline.{ComponentOutline}
use Rattle.typed_tree.specs.declared.outlines.ElementType.{ElementType}
use Rattle.typed_tree.specs.declared.outlines.ElementType.TheVariants as element_type
use Rattle.typed_tree.specs.Elements.{lineage, type_in, type_of}

-- the type of a component's root element
abbrev pub root_type : ComponentOutline → ElementType
root_type comp = type_in (slice_get comp.elements 0)

-- where so many steps along bases lead from a type
abbrev pub walked : ℕ → List ComponentOutline → ElementType → ElementType
walked n comps (element_type.BuiltIn kind) = element_type.BuiltIn kind
walked zero comps (element_type.Component c) = element_type.Component c
walked (suc n) comps (element_type.Component c) = walked n comps (type_of comps c 0)

-- where a jump leads, by a table of where it leads from each component
abbrev pub type_or_empty : Option ElementType → ElementType
type_or_empty None = element_type.BuiltIn element_kind.Empty
type_or_empty (Some t) = t

abbrev pub go : List ElementType → ElementType → ElementType
go jumps (element_type.BuiltIn kind) = element_type.BuiltIn kind
go jumps (element_type.Component c) = type_or_empty (slice_get jumps c)

-- a table has where so many steps lead from each component
abbrev pub IsAfter : ℕ → List ComponentOutline → ℕ → Option ElementType → Type 0
IsAfter n comps c None = slice_get comps c ≡ None
IsAfter n comps c (Some t) = t ≡ walked n comps (element_type.Component c)

abbrev pub AreAfter : ℕ → List ComponentOutline → List ElementType → Type 0
AreAfter n comps types = (c : ℕ) → IsAfter n comps c (slice_get types c)

-- the kind of a type, where no component below it is looked at
abbrev pub kind_of : ElementType → ElementKind
kind_of (element_type.BuiltIn kind) = kind
kind_of (element_type.Component c) = element_kind.Empty

abbrev pub kind_or_empty : Option ElementKind → ElementKind
kind_or_empty None = element_kind.Empty
kind_or_empty (Some kind) = kind

-- the tables are those of components
pub record AreBases (comps : List ComponentOutline) (bases : Bases) : Type 0 where
  pub types : bases.types ≡ map root_type comps
  pub kinds : (c : ℕ) → kind_or_empty (slice_get bases.kinds c) ≡ (lineage comps (element_type.Component c)).kind

-- the kind below a type
abbrev pub kind_by : Bases → ElementType → ElementKind
kind_by bases (element_type.BuiltIn kind) = kind
kind_by bases (element_type.Component c) = kind_or_empty (slice_get bases.kinds c)
