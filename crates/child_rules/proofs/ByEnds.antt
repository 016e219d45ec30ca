-- The faults of a component by the table of cursors are its faults.
use Rattle.std.specs.Prelude.{if◌then◌else◌}
use Rattle.std.proofs.Common.{◌≡◌, ℕ, Bool, true, false, List, [], ◌∷◌, ◌++◌, map, refl, ap, ◌∙◌}
use Rattle.element_tables.specs.declared.elements.ElementKind.{ElementKind}
use Rattle.element_tables.specs.declared.elements.ElementKind.TheVariants as element_kind
use Rattle.typed_tree.specs.declared.outlines.ComponentOutline.{ComponentOutline}
use Rattle.typed_tree.specs.declared.outlines.ElementOutline.{ElementOutline}
use Rattle.typed_tree.specs.declared.outlines.Outline.{Outline}
use Rattle.typed_tree.specs.Elements.{elements_of}
use Rattle.source_elements.specs.Elements.{written_in}
use Rattle.source_scopes.specs.Declarations.{FileComponent}
use Rattle.child_rules.specs.declared.cursors.Cursor.{Cursor}
use Rattle.child_rules.specs.Cells.{is_grid_kind}
use Rattle.child_rules.specs.Children.{bodies_faults, elements_faults}
use Rattle.child_rules.specs.Cursors.{start}
use Rattle.child_rules.specs.Ends.{AreEnds, component_faults_by, end_by, first_cursor_by}
use Rattle.child_rules.specs.Grids.{cells_faults, end_of, first_cursor}
use Rattle.child_rules.specs.Landing.{landing}
use Rattle.child_rules.specs.Source.{component_faults}

pub grid_kind : (kind : ElementKind) → is_grid_kind kind ≡ true → kind ≡ element_kind.GridLayout
grid_kind element_kind.GridLayout is = refl
grid_kind element_kind.Empty is = cc
grid_kind element_kind.Window is = cc
grid_kind element_kind.Rectangle is = cc
grid_kind element_kind.Text is = cc
grid_kind element_kind.Image is = cc
grid_kind element_kind.TouchArea is = cc
grid_kind element_kind.FocusScope is = cc
grid_kind element_kind.HorizontalLayout is = cc
grid_kind element_kind.VerticalLayout is = cc
grid_kind element_kind.Row is = cc

choice : (b : Bool) (x y z : Cursor) → (b ≡ true → x ≡ y) → (if b then x else z) ≡ (if b then y else z)
choice true x y z same_then = same_then refl
choice false x y z same_then = refl

cursor_by : (declared : List FileComponent) (comps : List ComponentOutline) (ends : List Cursor) → AreEnds declared comps ends → (element : ElementOutline) → first_cursor_by ends comps element ≡ first_cursor declared comps element
cursor_by declared comps ends held element =
    choice (is_grid_kind (landing comps element.ty)) (end_by ends element.ty) (end_of declared comps element.ty) start (λ grid. held element.ty (grid_kind (landing comps element.ty) grid))

maps : {A B : Type 0} (f g : A → B) → ((x : A) → f x ≡ g x) → (xs : List A) → map f xs ≡ map g xs
maps f g alike [] = refl
maps f g alike (x ∷ xs) = ap (λ y. y ∷ map f xs) (alike x) ∙ ap (λ ys. g x ∷ ys) (maps f g alike xs)

pub faults_by : (declared : List FileComponent) (outline : Outline) (ends : List Cursor) → AreEnds declared outline.comps ends → (c : ℕ) (one : FileComponent)
    → component_faults_by ends outline c one ≡ component_faults declared outline c one
faults_by declared outline ends held c one =
    ap (λ cursors. elements_faults outline.comps c ++ (bodies_faults outline c (written_in one.component) ++ cells_faults outline.comps c cursors 0 (written_in one.component)))
    (maps (first_cursor_by ends outline.comps) (first_cursor declared outline.comps) (cursor_by declared outline.comps ends held) (elements_of outline.comps c))
