-- The cells of grids.
use Rattle.std.specs.Prelude.{ℕ, Bool, true, false, ◌&&◌, not, if◌then◌else◌, List, Option, Some, None}
use Rattle.std.specs.Option.{option_and_then}
use Rattle.element_tables.specs.declared.elements.ElementKind.{ElementKind}
use Rattle.element_tables.specs.declared.elements.ElementKind.TheVariants as element_kind
use Rattle.typed_tree.specs.declared.outlines.ComponentOutline.{ComponentOutline}
use Rattle.typed_tree.specs.Elements.{elements_of, is_row_kind, lineage, parent_of, type_of}
use Rattle.child_rules.specs.Landing.{inside, lands_in}

abbrev pub is_grid_kind : ElementKind → Bool
is_grid_kind element_kind.GridLayout = true
is_grid_kind _ = false

-- an element that lands in a grid itself, not in a `Row` of it
abbrev pub is_in_grid : Option ElementKind → Bool
is_in_grid None = false
is_in_grid (Some kind) = is_grid_kind kind

-- an element that lands in a grid or in a `Row`
abbrev pub takes_cells : ElementKind → Bool
takes_cells element_kind.GridLayout = true
takes_cells element_kind.Row = true
takes_cells _ = false

abbrev pub is_among_cells : Option ElementKind → Bool
is_among_cells None = false
is_among_cells (Some kind) = takes_cells kind

-- an element is a `Row`, or built on one
abbrev pub is_row : List ComponentOutline → ℕ → ℕ → Bool
is_row comps c e = is_row_kind (lineage comps (type_of comps c e)).kind

-- a cell: an element that lands in a grid or in a `Row`, and is no `Row` itself
abbrev pub is_cell : List ComponentOutline → ℕ → ℕ → Bool
is_cell comps c e = is_among_cells (lands_in comps c e) && not (is_row comps c e)

-- the element in which an element lands in a grid: the one around it, or the one around the `Row` that is around it
abbrev pub if_grid : List ComponentOutline → ℕ → ℕ → Option ℕ
if_grid comps c e = if is_grid_kind (inside comps c e) then Some e else None

abbrev pub grid_by : List ComponentOutline → ℕ → ℕ → ElementKind → Option ℕ
grid_by comps c e element_kind.Row = option_and_then (if_grid comps c) (parent_of (elements_of comps c) e)
grid_by comps c e _ = if_grid comps c e

abbrev pub grid_around : List ComponentOutline → ℕ → ℕ → Option ℕ
grid_around comps c e = grid_by comps c e (inside comps c e)

abbrev pub grid_of : List ComponentOutline → ℕ → ℕ → Option ℕ
grid_of comps c e = option_and_then (grid_around comps c) (parent_of (elements_of comps c) e)
