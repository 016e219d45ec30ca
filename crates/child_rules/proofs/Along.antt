-- Cursors along the elements of a component, an element at a time.
use Rattle.std.proofs.Common.{◌≡◌, ℕ, ◌+◌, ◌<◌, ◌≤◌, List, ◌++◌, length, drop, get_or, Option, sym, ap, ◌∙◌, add-one}
use Rattle.std.proofs.lemmas.List.{drop_all}
use Rattle.slint_base.specs.declared.faults.Fault.{Fault}
use Rattle.fault_order.specs.Order.{earlier_of, first_of}
use Rattle.fault_order.proofs.First.{earlier_of-None}
use Rattle.typed_tree.specs.declared.outlines.ComponentOutline.{ComponentOutline}
use Rattle.source_elements.specs.Elements.{WrittenElement}
use Rattle.child_rules.specs.declared.cursors.Cursor.{Cursor}
use Rattle.child_rules.specs.Cells.{grid_of}
use Rattle.child_rules.specs.Grids.{cells_faults, cursor_for, cursors_after, end_faults, moved_along, moved_in}
use Rattle.fault_order.proofs.Told.{from_item, one_told}

-- the cursor behind an element, and the elements that are left
pub along_turn : (comps : List ComponentOutline) (c grid : ℕ) (ws : List WrittenElement) (i : ℕ) (w : WrittenElement) (moving next : Cursor) {all : Cursor} → w ≡ get_or ws i w → i < length ws
    → next ≡ moved_in comps c grid i w.body moving → moved_along comps c grid i (drop i ws) moving ≡ all → moved_along comps c grid (i + 1) (drop (i + 1) ws) next ≡ all
along_turn comps c grid ws i w moving next is within moves held =
    ap (moved_along comps c grid (i + 1) (drop (i + 1) ws)) moves
    ∙ ap (λ n. moved_along comps c grid n (drop (i + 1) ws) (moved_in comps c grid i w.body moving)) (add-one i)
    ∙ ap (λ ys. moved_along comps c grid i ys moving) (sym (from_item ws i w is within))
    ∙ held

pub along_end : (comps : List ComponentOutline) (c grid : ℕ) (ws : List WrittenElement) (i : ℕ) (moving : Cursor) {all : Cursor} → length ws ≤ i
    → moved_along comps c grid i (drop i ws) moving ≡ all → moving ≡ all
along_end comps c grid ws i moving past held = ap (λ ys. moved_along comps c grid i ys moving) (sym (drop_all i ws past)) ∙ held

-- the fault of a cell, and the cells that are left
pub cells_turn : (comps : List ComponentOutline) (c : ℕ) (ws : List WrittenElement) (i : ℕ) (w : WrittenElement) (cursors behind : List Cursor) (so_far next : Option Fault) {one all : Option Fault} → w ≡ get_or ws i w → i < length ws
    → one ≡ first_of (end_faults comps c i w.body (cursor_for cursors (grid_of comps c i))) → next ≡ earlier_of so_far one → behind ≡ cursors_after comps c i w.body cursors
    → earlier_of so_far (first_of (cells_faults comps c cursors i (drop i ws))) ≡ all
    → earlier_of next (first_of (cells_faults comps c behind (i + 1) (drop (i + 1) ws))) ≡ all
cells_turn comps c ws i w cursors behind so_far next is within told next_is moves held =
    ap (λ xs. earlier_of next (first_of (cells_faults comps c xs (i + 1) (drop (i + 1) ws)))) moves
    ∙ one_told (end_faults comps c i w.body (cursor_for cursors (grid_of comps c i))) (cells_faults comps c (cursors_after comps c i w.body cursors) (i + 1) (drop (i + 1) ws)) so_far next told next_is
    ∙ ap (λ n. earlier_of so_far (first_of (end_faults comps c i w.body (cursor_for cursors (grid_of comps c i)) ++ cells_faults comps c (cursors_after comps c i w.body cursors) n (drop (i + 1) ws)))) (add-one i)
    ∙ ap (λ ys. earlier_of so_far (first_of (cells_faults comps c cursors i ys))) (sym (from_item ws i w is within))
    ∙ held

pub cells_end : (comps : List ComponentOutline) (c : ℕ) (ws : List WrittenElement) (i : ℕ) (cursors : List Cursor) (so_far : Option Fault) {all : Option Fault} → length ws ≤ i
    → earlier_of so_far (first_of (cells_faults comps c cursors i (drop i ws))) ≡ all → so_far ≡ all
cells_end comps c ws i cursors so_far past held = sym (earlier_of-None so_far) ∙ ap (λ ys. earlier_of so_far (first_of (cells_faults comps c cursors i ys))) (sym (drop_all i ws past)) ∙ held
