-- The faults of children and grids.
use Rattle.std.proofs.Common.{ℕ, suc, Bool, true, false, ◌&&◌, not, List, [], ◌∷◌, slice_get, Option, Some, None, refl}
use Rattle.slint_base.specs.declared.faults.Fault.{Fault}
use Rattle.slint_base.specs.declared.faults.Span.{Span}
use Rattle.syntax_tree.specs.declared.items.CallbackForm.{CallbackForm}
use Rattle.syntax_tree.specs.declared.items.CallbackForm.TheVariants as forms
use Rattle.syntax_tree.specs.declared.items.Item.{Item, out-Item}
use Rattle.syntax_tree.specs.declared.items.Item.TheOpen.{Item-F}
use Rattle.syntax_tree.specs.declared.items.PropValue.{PropValue}
use Rattle.syntax_tree.specs.declared.items.PropValue.TheVariants as prop_values
use Rattle.syntax_tree.specs.declared.items.State.{State}
use Rattle.syntax_tree.specs.declared.statements.Value.{Value}
use Rattle.syntax_tree.specs.declared.words.Ident.{Ident}
use Rattle.syntax_tree.specs.declared.words.Path.{Path}
use Rattle.element_tables.specs.declared.elements.ElementKind.{ElementKind}
use Rattle.typed_tree.specs.declared.outlines.ComponentOutline.{ComponentOutline}
use Rattle.typed_tree.specs.declared.outlines.ElementOutline.{ElementOutline}
use Rattle.typed_tree.specs.declared.outlines.Outline.{Outline}
use Rattle.typed_tree.specs.declared.outlines.Repeat.{Repeat}
use Rattle.typed_tree.specs.declared.outlines.Repeat.TheVariants as repeats
use Rattle.typed_tree.specs.Elements.{elements_of}
use Rattle.name_lookup.specs.declared.leads.Lead.{Lead}
use Rattle.name_lookup.specs.declared.leads.Lead.TheVariants as leads
use Rattle.name_lookup.specs.Leads.{path_name}
use Rattle.import_resolver.specs.Loaded.{FileRow}
use Rattle.source_elements.specs.Elements.{WrittenElement, written_in}
use Rattle.source_scopes.specs.Declarations.{FileComponent, components_of}
use Rattle.child_rules.specs.declared.cursors.Cursor.{Cursor}
use Rattle.child_rules.specs.Cells.{grid_of, is_among_cells, is_in_grid, is_row, takes_cells}
use Rattle.child_rules.specs.Children.{binding_faults, body_faults, change_faults, element_faults, faults_in, first_slot, form_faults, is_in_leaf, is_misgiven, is_misplaced, is_no_cell, last_name, lead_faults, led_faults, link_faults, number_faults, one_item_faults, path_faults, path_lead, place_faults, repeat_faults, slot_faults, state_faults, value_faults}
use Rattle.child_rules.specs.Faults.{grid_place_if, if_any, misplaced_if}
use Rattle.child_rules.specs.Grids.{cells_faults, cursor_for, cursors_after, end_faults, first_cursors, is_past_end}
use Rattle.child_rules.specs.Landing.{inside, lands_in}
use Rattle.child_rules.specs.Numbers.{ItemLayer, is_cell_number, is_out, whole_literal}
use Rattle.child_rules.specs.Source.{child_faults, component_faults, written_faults}
use Rattle.source_faults.proofs.Others.{AllOther, both, counted, flat, if_either, none, one}

misplaced : (b : Bool) (span : Span) → AllOther (misplaced_if b span)
misplaced true span = one refl
misplaced false span = none

grid_place : (b : Bool) (span : Span) → AllOther (grid_place_if b span)
grid_place true span = one refl
grid_place false span = none

-- ---- elements

in_repeat : (b : Bool) (r : Repeat) → AllOther (repeat_faults b r)
in_repeat b repeats.Once = none
in_repeat b (repeats.If word) = grid_place b word
in_repeat b (repeats.For item number word) = grid_place b word

in_place : (lands : Option ElementKind) (row : Bool) (element : ElementOutline) → AllOther (place_faults lands row element)
in_place lands row element = both (misplaced (is_in_leaf lands) element.ty_span)
    (both (grid_place (row && not (is_in_grid lands)) element.ty_span) (in_repeat (is_among_cells lands) element.repeat))

in_element : (comps : List ComponentOutline) (c e : ℕ) (element : ElementOutline) → AllOther (element_faults comps c e element)
in_element comps c e element = in_place (lands_in comps c e) (is_row comps c e) element

-- ---- items

in_slot : (comps : List ComponentOutline) (c e : ℕ) (slot : Option Fault) (span : Span) → AllOther (slot_faults comps c e slot span)
in_slot comps c e slot span = both (misplaced (is_misplaced comps c e slot span) span) (grid_place (takes_cells (inside comps c e)) span)

in_number : (comps : List ComponentOutline) (c e : ℕ) (name : Ident) (out : Bool) → AllOther (number_faults comps c e name out)
in_number comps c e name out = grid_place (is_misgiven comps c e name out) name.span

in_binding : (comps : List ComponentOutline) (c e : ℕ) (name : Ident) (v : Value) → AllOther (binding_faults comps c e name v)
in_binding comps c e name v = in_number comps c e name (is_out name.name (whole_literal v))

in_lead : (comps : List ComponentOutline) (c : ℕ) (span : Span) (lead : Lead) → AllOther (lead_faults comps c span lead)
in_lead comps c span (leads.Lost at) = none
in_lead comps c span (leads.To found) = grid_place (is_no_cell comps c found.member) span

in_path : (outline : Outline) (c e : ℕ) (path : Path) → AllOther (path_faults outline c e path)
in_path outline c e path = if_either (is_cell_number (last_name path.first path.rest).name) (led_faults outline c e path) []
    (in_lead outline.comps c (path_name path) (path_lead outline c e path)) none

in_value : (outline : Outline) (c e : ℕ) (v : PropValue) → AllOther (value_faults outline c e v)
in_value outline c e (prop_values.Link path) = in_path outline c e path
in_value outline c e (prop_values.Value v) = none
in_value outline c e prop_values.None = none

in_form : (outline : Outline) (c e : ℕ) (form : CallbackForm) → AllOther (form_faults outline c e form)
in_form outline c e (forms.Link path) = in_path outline c e path
in_form outline c e (forms.Signature parameters result) = none

in_link : (outline : Outline) (c e : ℕ) (left : Ident) (right : Path) → AllOther (link_faults outline c e left right)
in_link outline c e left right = both (in_number outline.comps c e left false) (in_path outline c e right)

in_state : (outline : Outline) (c e : ℕ) (state : State) → AllOther (state_faults outline c e state)
in_state outline c e state = flat (change_faults outline c e) (λ change. in_path outline c e change.path) state.changes

in_layer : (outline : Outline) (c e : ℕ) (slot : Option Fault) (layer : ItemLayer) → AllOther (faults_in outline c e slot layer)
in_layer outline c e slot (Item-F.Property p) = in_value outline c e p.value
in_layer outline c e slot (Item-F.Callback callback) = in_form outline c e callback.form
in_layer outline c e slot (Item-F.Function f) = none
in_layer outline c e slot (Item-F.Binding b) = in_binding outline.comps c e b.name b.value
in_layer outline c e slot (Item-F.Link l) = in_link outline c e l.left l.right
in_layer outline c e slot (Item-F.Handler h) = none
in_layer outline c e slot (Item-F.Changed change) = none
in_layer outline c e slot (Item-F.States list) = flat (state_faults outline c e) (in_state outline c e) list.states
in_layer outline c e slot (Item-F.Element element) = none
in_layer outline c e slot (Item-F.If i) = none
in_layer outline c e slot (Item-F.For f) = none
in_layer outline c e slot (Item-F.Children span) = in_slot outline.comps c e slot span

in_body : (outline : Outline) (c : ℕ) (slot : Option Fault) (e : ℕ) (w : WrittenElement) → AllOther (body_faults outline c slot e w)
in_body outline c slot e w = flat (one_item_faults outline c e slot) (λ item. in_layer outline c e slot (out-Item item)) w.body

-- ---- grids

may : {A : Type 0} (f : A → List Fault) → ((x : A) → AllOther (f x)) → (o : Option A) → AllOther (if_any f o)
may f p None = none
may f p (Some x) = p x

at_end : (comps : List ComponentOutline) (c e : ℕ) (body : List Item) (cursor : Option Cursor) → AllOther (end_faults comps c e body cursor)
at_end comps c e body cursor = may (λ (element : ElementOutline). grid_place_if (is_past_end comps c e body cursor) element.ty_span)
    (λ element. grid_place (is_past_end comps c e body cursor) element.ty_span) (slice_get (elements_of comps c) e)

in_cells : (comps : List ComponentOutline) (c : ℕ) (cursors : List Cursor) (e : ℕ) (ws : List WrittenElement) → AllOther (cells_faults comps c cursors e ws)
in_cells comps c cursors e [] = none
in_cells comps c cursors e (w ∷ ws) = both (at_end comps c e w.body (cursor_for cursors (grid_of comps c e))) (in_cells comps c (cursors_after comps c e w.body cursors) (suc e) ws)

in_written : (declared : List FileComponent) (outline : Outline) (c : ℕ) (written : List WrittenElement) → AllOther (written_faults declared outline c written)
in_written declared outline c written = both (counted (element_faults outline.comps c) (in_element outline.comps c) 0 (elements_of outline.comps c))
    (both (counted (body_faults outline c (first_slot written)) (in_body outline c (first_slot written)) 0 written) (in_cells outline.comps c (first_cursors declared outline.comps c) 0 written))

pub children_other : (rows : List FileRow) (outline : Outline) → AllOther (child_faults rows outline)
children_other rows outline = counted (component_faults (components_of rows) outline) (λ c one. in_written (components_of rows) outline c (written_in one.component)) 0 (components_of rows)
