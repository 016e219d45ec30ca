-- The cursors behind what components put into the grids that they are built on, as they become known, and the way along takers to what is known.
use Rattle.std.specs.Prelude.{◌≡◌, ⊤, ℕ, Bool, true, if◌then◌else◌, List, [], ◌∷◌, ◌++◌, map, slice_get, Option, Some, None}
use Rattle.std.specs.Option.{is_some}
use Rattle.slint_base.specs.declared.faults.Fault.{Fault}
use Rattle.element_tables.specs.declared.elements.ElementKind.TheVariants as element_kind
use Rattle.typed_tree.specs.declared.outlines.ComponentOutline.{ComponentOutline}
use Rattle.typed_tree.specs.declared.outlines.ElementType.{ElementType}
use Rattle.typed_tree.specs.declared.outlines.ElementType.TheVariants as element_type
use Rattle.typed_tree.specs.declared.outlines.ElementOutline.{ElementOutline}
use Rattle.typed_tree.specs.declared.outlines.Outline.{Outline}
use Rattle.typed_tree.specs.Elements.{elements_of}
use Rattle.source_elements.specs.Elements.{WrittenElement, written_in}
use Rattle.source_scopes.specs.Declarations.{FileComponent}
use Rattle.child_rules.specs.declared.cursors.Cursor.{Cursor}
use Rattle.child_rules.specs.Cursors.{start}
use Rattle.child_rules.specs.Cells.{is_grid_kind}
use Rattle.child_rules.specs.Children.{bodies_faults, elements_faults}
use Rattle.child_rules.specs.Grids.{cells_faults, end_of, end_within, own_cells}
use Rattle.child_rules.specs.Landing.{landing, landing_within, taker}

-- a cursor is that behind what is put into the grid of a type, where it has one
abbrev pub IsEnd : List FileComponent → List ComponentOutline → ElementType → Cursor → Type 0
IsEnd declared comps t cursor = (n : ℕ) → landing_within n (taker comps) t ≡ element_kind.GridLayout → cursor ≡ end_within n (taker comps) (own_cells declared comps) t

-- what is known of a component
abbrev pub known_in : Option (Option Cursor) → Option Cursor
known_in None = None
known_in (Some cursor) = cursor

abbrev pub known_at : List (Option Cursor) → ℕ → Option Cursor
known_at known c = known_in (slice_get known c)

abbrev pub IsKnown : List FileComponent → List ComponentOutline → ℕ → Option Cursor → Type 0
IsKnown declared comps c None = ⊤
IsKnown declared comps c (Some cursor) = IsEnd declared comps (element_type.Component c) cursor

abbrev pub AreKnown : List FileComponent → List ComponentOutline → List (Option Cursor) → Type 0
AreKnown declared comps known = (c : ℕ) → IsKnown declared comps c (known_at known c)

-- components, each of which the one before takes: from a type to another one
abbrev pub Trail : List ComponentOutline → ElementType → List ℕ → ElementType → Type 0
Trail comps from [] to = from ≡ to
Trail comps from (c ∷ cs) to = (from ≡ element_type.Component c) × Trail comps (taker comps c) cs to

abbrev pub cursor_or_start : Option Cursor → Cursor
cursor_or_start None = start
cursor_or_start (Some cursor) = cursor

-- a type whose cursor is known
abbrev pub is_settled : List (Option Cursor) → ElementType → Bool
is_settled known (element_type.BuiltIn kind) = true
is_settled known (element_type.Component c) = is_some (known_at known c)

abbrev pub known_cursor : List (Option Cursor) → ElementType → Cursor
known_cursor known (element_type.BuiltIn kind) = start
known_cursor known (element_type.Component c) = cursor_or_start (known_at known c)

-- the cursors of all components
abbrev pub IsEndFor : List FileComponent → List ComponentOutline → ℕ → Option Cursor → Type 0
IsEndFor declared comps c None = ⊤
IsEndFor declared comps c (Some cursor) = landing comps (element_type.Component c) ≡ element_kind.GridLayout → cursor ≡ end_of declared comps (element_type.Component c)

abbrev pub end_by : List Cursor → ElementType → Cursor
end_by ends (element_type.BuiltIn kind) = start
end_by ends (element_type.Component c) = cursor_or_start (slice_get ends c)

abbrev pub AreEnds : List FileComponent → List ComponentOutline → List Cursor → Type 0
AreEnds declared comps ends = (t : ElementType) → landing comps t ≡ element_kind.GridLayout → end_by ends t ≡ end_of declared comps t

-- the faults of a component, by that table
abbrev pub first_cursor_by : List Cursor → List ComponentOutline → ElementOutline → Cursor
first_cursor_by ends comps element = if is_grid_kind (landing comps element.ty) then end_by ends element.ty else start

abbrev pub first_cursors_by : List Cursor → List ComponentOutline → ℕ → List Cursor
first_cursors_by ends comps c = map (first_cursor_by ends comps) (elements_of comps c)

abbrev pub grid_faults_by : List Cursor → List ComponentOutline → ℕ → List WrittenElement → List Fault
grid_faults_by ends comps c written = cells_faults comps c (first_cursors_by ends comps c) 0 written

abbrev pub written_faults_by : List Cursor → Outline → ℕ → List WrittenElement → List Fault
written_faults_by ends outline c written = elements_faults outline.comps c ++ (bodies_faults outline c written ++ grid_faults_by ends outline.comps c written)

abbrev pub component_faults_by : List Cursor → Outline → ℕ → FileComponent → List Fault
component_faults_by ends outline c one = written_faults_by ends outline c (written_in one.component)
