-- Cells that end past the thousandth row or column of their grid.
use Rattle.std.specs.Prelude.{ℕ, zero, suc, Bool, false, ◌&&◌, not, ◌==◌, if◌then◌else◌, List, [], ◌∷◌, ◌++◌, map, length, slice_get, slice_set, Option, Some, None}
use Rattle.std.specs.Option.{option_and_then}
use Rattle.slint_base.specs.declared.faults.Fault.{Fault}
use Rattle.slint_base.specs.declared.faults.Span.{Span}
use Rattle.syntax_tree.specs.declared.items.Item.{Item}
use Rattle.typed_tree.specs.declared.outlines.ComponentOutline.{ComponentOutline}
use Rattle.typed_tree.specs.declared.outlines.ElementOutline.{ElementOutline}
use Rattle.typed_tree.specs.declared.outlines.ElementType.{ElementType}
use Rattle.typed_tree.specs.declared.outlines.ElementType.TheVariants as element_type
use Rattle.typed_tree.specs.Elements.{elements_of}
use Rattle.source_elements.specs.Elements.{WrittenElement, written_in}
use Rattle.source_scopes.specs.Declarations.{FileComponent}
use Rattle.child_rules.specs.declared.cursors.Cursor.{Cursor}
use Rattle.child_rules.specs.Cells.{grid_of, is_grid_kind, is_in_grid, is_row}
use Rattle.child_rules.specs.Cursors.{at_child, at_row, behind_cell, ends_past, placed_by, start}
use Rattle.child_rules.specs.Faults.{grid_place_if, if_any}
use Rattle.child_rules.specs.Landing.{landing, lands_in, taker, taking_element}
use Rattle.child_rules.specs.Numbers.{numbers_of}

-- the cursor where a cell stands, out of where its grid's cursor is
abbrev pub cell_at : List ComponentOutline → ℕ → ℕ → List Item → Cursor → Cursor
cell_at comps c e body cursor = placed_by (numbers_of body) (if is_in_grid (lands_in comps c e) then at_child cursor else cursor)

-- how an element of a grid moves the grid's cursor; a `Row` in a `Row` doesn't
abbrev pub row_passed : Bool → Cursor → Cursor
row_passed direct cursor = if direct then at_row cursor else cursor

abbrev pub moved : List ComponentOutline → ℕ → ℕ → List Item → Cursor → Cursor
moved comps c e body cursor = if is_row comps c e
    then row_passed (is_in_grid (lands_in comps c e)) cursor
    else behind_cell (numbers_of body) (cell_at comps c e body cursor)

-- ---- the children of a component's own that land in the grid that it is built on

abbrev pub is_number : ℕ → Option ℕ → Bool
is_number n None = false
is_number n (Some m) = m == n

abbrev pub moved_in : List ComponentOutline → ℕ → ℕ → ℕ → List Item → Cursor → Cursor
moved_in comps c grid e body cursor = if is_number grid (grid_of comps c e) then moved comps c e body cursor else cursor

abbrev pub moved_along : List ComponentOutline → ℕ → ℕ → ℕ → List WrittenElement → Cursor → Cursor
moved_along comps c grid e [] cursor = cursor
moved_along comps c grid e (w ∷ ws) cursor = moved_along comps c grid (suc e) ws (moved_in comps c grid e w.body cursor)

abbrev pub elements_written : Option FileComponent → List WrittenElement
elements_written None = []
elements_written (Some declared) = written_in declared.component

abbrev pub own_cells : List FileComponent → List ComponentOutline → ℕ → Cursor → Cursor
own_cells declared comps c cursor = moved_along comps c (taking_element comps c) 0 (elements_written (slice_get declared c)) cursor

-- the cursor behind all that components put into the grid which a type is built on: so many components far, by their takers and what each adds
abbrev pub end_within : ℕ → (ℕ → ElementType) → (ℕ → Cursor → Cursor) → ElementType → Cursor
end_within n taken_by adds (element_type.BuiltIn kind) = start
end_within zero taken_by adds (element_type.Component c) = start
end_within (suc n) taken_by adds (element_type.Component c) = adds c (end_within n taken_by adds (taken_by c))

abbrev pub end_of : List FileComponent → List ComponentOutline → ElementType → Cursor
end_of declared comps t = end_within (length comps) (taker comps) (own_cells declared comps) t

-- ---- all cells of a component: each of its grids has a cursor, by the grid's number

-- what is written in an instance follows what its component has put there
abbrev pub first_cursor : List FileComponent → List ComponentOutline → ElementOutline → Cursor
first_cursor declared comps element = if is_grid_kind (landing comps element.ty) then end_of declared comps element.ty else start

abbrev pub first_cursors : List FileComponent → List ComponentOutline → ℕ → List Cursor
first_cursors declared comps c = map (first_cursor declared comps) (elements_of comps c)

-- an element in a grid, if it is in one: the grid's cursor before it
abbrev pub cursor_for : List Cursor → Option ℕ → Option Cursor
cursor_for cursors grid = option_and_then (slice_get cursors) grid

-- the grid's cursor goes on behind it
abbrev pub cursors_behind : List ComponentOutline → ℕ → ℕ → List Item → List Cursor → Option ℕ → Option Cursor → List Cursor
cursors_behind comps c e body cursors (Some grid) (Some cursor) = slice_set cursors grid (moved comps c e body cursor)
cursors_behind comps c e body cursors _ _ = cursors

abbrev pub cursors_after : List ComponentOutline → ℕ → ℕ → List Item → List Cursor → List Cursor
cursors_after comps c e body cursors = cursors_behind comps c e body cursors (grid_of comps c e) (cursor_for cursors (grid_of comps c e))

-- the fault of a cell that ends past the last row or column, at its type
abbrev pub type_span : ElementOutline → Span
type_span element = element.ty_span

abbrev pub is_past_end : List ComponentOutline → ℕ → ℕ → List Item → Option Cursor → Bool
is_past_end comps c e body None = false
is_past_end comps c e body (Some cursor) = not (is_row comps c e) && ends_past (numbers_of body) (cell_at comps c e body cursor)

abbrev pub end_faults : List ComponentOutline → ℕ → ℕ → List Item → Option Cursor → List Fault
end_faults comps c e body cursor = if_any (λ element. grid_place_if (is_past_end comps c e body cursor) element.ty_span) (slice_get (elements_of comps c) e)

abbrev pub cells_faults : List ComponentOutline → ℕ → List Cursor → ℕ → List WrittenElement → List Fault
cells_faults comps c cursors e [] = []
cells_faults comps c cursors e (w ∷ ws) =
    end_faults comps c e w.body (cursor_for cursors (grid_of comps c e)) ++ cells_faults comps c (cursors_after comps c e w.body cursors) (suc e) ws

abbrev pub grid_faults : List FileComponent → List ComponentOutline → ℕ → List WrittenElement → List Fault
grid_faults declared comps c written = cells_faults comps c (first_cursors declared comps c) 0 written
