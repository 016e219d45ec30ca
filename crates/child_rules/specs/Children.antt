-- The faults of children where they land, of `@children`, and of the four numbers of a cell.
use Rattle.std.specs.Prelude.{ℕ, Bool, true, false, ◌&&◌, ◌||◌, not, if◌then◌else◌, List, [], ◌∷◌, ◌++◌, nat_lt, Option, Some, None}
use Rattle.std.specs.List.{flat_map}
use Rattle.slint_base.specs.declared.faults.Fault.{Fault}
use Rattle.slint_base.specs.declared.faults.Span.{Span}
use Rattle.element_tables.specs.declared.elements.ElementKind.{ElementKind}
use Rattle.element_tables.specs.declared.elements.ElementKind.TheVariants as element_kind
use Rattle.syntax_tree.specs.declared.items.CallbackForm.{CallbackForm}
use Rattle.syntax_tree.specs.declared.items.CallbackForm.TheVariants as forms
use Rattle.syntax_tree.specs.declared.items.Change.{Change}
use Rattle.syntax_tree.specs.declared.items.Item.{Item, out-Item}
use Rattle.syntax_tree.specs.declared.items.Item.TheOpen.{Item-F}
use Rattle.syntax_tree.specs.declared.items.PropValue.{PropValue}
use Rattle.syntax_tree.specs.declared.items.PropValue.TheVariants as prop_values
use Rattle.syntax_tree.specs.declared.items.State.{State}
use Rattle.syntax_tree.specs.declared.statements.Value.{Value}
use Rattle.syntax_tree.specs.declared.words.Ident.{Ident}
use Rattle.syntax_tree.specs.declared.words.Path.{Path}
use Rattle.typed_tree.specs.declared.members.ElementMember.TheVariants as element_member
use Rattle.typed_tree.specs.declared.members.MemberRef.{MemberRef}
use Rattle.typed_tree.specs.declared.members.MemberRef.TheVariants as member_ref
use Rattle.typed_tree.specs.declared.outlines.ComponentOutline.{ComponentOutline}
use Rattle.typed_tree.specs.declared.outlines.ElementOutline.{ElementOutline}
use Rattle.typed_tree.specs.declared.outlines.Outline.{Outline}
use Rattle.typed_tree.specs.declared.outlines.Repeat.{Repeat}
use Rattle.typed_tree.specs.declared.outlines.Repeat.TheVariants as repeats
use Rattle.typed_tree.specs.declared.scopes.Site.TheVariants as site
use Rattle.typed_tree.specs.Elements.{elements_of}
use Rattle.name_lookup.specs.declared.leads.Lead.{Lead}
use Rattle.name_lookup.specs.declared.leads.Lead.TheVariants as leads
use Rattle.name_lookup.specs.Leads.{body_scope, lead_of, path_name}
use Rattle.fault_order.specs.Order.{first_of, numbered}
use Rattle.source_elements.specs.Elements.{WrittenElement}
use Rattle.child_rules.specs.Cells.{is_among_cells, is_cell, is_in_grid, is_row, takes_cells}
use Rattle.child_rules.specs.Faults.{grid_place_if, misplaced_if}
use Rattle.child_rules.specs.Landing.{inside, lands_in}
use Rattle.child_rules.specs.Numbers.{ItemLayer, is_cell_number, is_out, whole_literal}
use Rattle.child_rules.specs.Rows.{is_in_rows, rows_around}

-- ---- elements

-- elements that take no children
abbrev pub is_leaf_kind : ElementKind → Bool
is_leaf_kind element_kind.Text = true
is_leaf_kind element_kind.Image = true
is_leaf_kind _ = false

abbrev pub is_in_leaf : Option ElementKind → Bool
is_in_leaf None = false
is_in_leaf (Some kind) = is_leaf_kind kind

-- at the word by which an element is repeated
abbrev pub repeat_faults : Bool → Repeat → List Fault
repeat_faults test repeats.Once = []
repeat_faults test (repeats.If word) = grid_place_if test word
repeat_faults test (repeats.For item number word) = grid_place_if test word

-- an element that lands in an element of some kind, or in none: it may not land in a text or an image; a `Row` has to land in a grid, so it is no component's
-- root element; and in a grid or a `Row` nothing is repeated
abbrev pub place_faults : Option ElementKind → Bool → ElementOutline → List Fault
place_faults lands row element = misplaced_if (is_in_leaf lands) element.ty_span
    ++ (grid_place_if (row && not (is_in_grid lands)) element.ty_span ++ repeat_faults (is_among_cells lands) element.repeat)

abbrev pub element_faults : List ComponentOutline → ℕ → ℕ → ElementOutline → List Fault
element_faults comps c e element = place_faults (lands_in comps c e) (is_row comps c e) element

abbrev pub elements_faults : List ComponentOutline → ℕ → List Fault
elements_faults comps c = numbered (element_faults comps c) 0 (elements_of comps c)

-- ---- `@children`

-- the rule that would come at each `@children` of a component; at the first of them it doesn't
abbrev pub at_slot : ItemLayer → List Fault
at_slot (Item-F.Children span) = misplaced_if true span
at_slot _ = []

abbrev pub at_slot_of : Item → List Fault
at_slot_of item = at_slot (out-Item item)

abbrev pub at_slots_of : WrittenElement → List Fault
at_slots_of w = flat_map at_slot_of w.body

abbrev pub first_slot : List WrittenElement → Option Fault
first_slot written = first_of (flat_map at_slots_of written)

abbrev pub is_behind : Option Fault → Span → Bool
is_behind None span = false
is_behind (Some first) span = nat_lt first.span.start span.start

-- one that isn't the first, or is in a repeated element, and one that lands in a grid or in a `Row`
abbrev pub is_misplaced : List ComponentOutline → ℕ → ℕ → Option Fault → Span → Bool
is_misplaced comps c e first span = is_behind first span || is_in_rows (elements_of comps c) e

abbrev pub slot_faults : List ComponentOutline → ℕ → ℕ → Option Fault → Span → List Fault
slot_faults comps c e first span = misplaced_if (is_misplaced comps c e first span) span ++ grid_place_if (takes_cells (inside comps c e)) span

-- ---- numbers of cells

-- the name of one of the four numbers, which each element has but for a `Row`: it may be given to a cell alone, and has a range
abbrev pub is_misgiven : List ComponentOutline → ℕ → ℕ → Ident → Bool → Bool
is_misgiven comps c e name out = is_cell_number name.name && not (is_row comps c e) && (not (is_cell comps c e) || out)

abbrev pub number_faults : List ComponentOutline → ℕ → ℕ → Ident → Bool → List Fault
number_faults comps c e name out = grid_place_if (is_misgiven comps c e name out) name.span

abbrev pub binding_faults : List ComponentOutline → ℕ → ℕ → Ident → Value → List Fault
binding_faults comps c e name value = number_faults comps c e name (is_out name.name (whole_literal value))

-- a path that ends in one of the four, where it leads to that of an element which is no cell
abbrev pub last_name : Ident → List Ident → Ident
last_name name [] = name
last_name name (x ∷ xs) = last_name x xs

abbrev pub is_no_cell : List ComponentOutline → ℕ → MemberRef → Bool
is_no_cell comps c (member_ref.Element e (element_member.BuiltIn n)) = not (is_cell comps c e)
is_no_cell comps c _ = false

abbrev pub lead_faults : List ComponentOutline → ℕ → Span → Lead → List Fault
lead_faults comps c span (leads.Lost at) = []
lead_faults comps c span (leads.To found) = grid_place_if (is_no_cell comps c found.member) span

abbrev pub path_lead : Outline → ℕ → ℕ → Path → Lead
path_lead outline c e path = lead_of (body_scope outline (site.Element c e) (rows_around (elements_of outline.comps c) e)) path

abbrev pub led_faults : Outline → ℕ → ℕ → Path → List Fault
led_faults outline c e path = lead_faults outline.comps c (path_name path) (path_lead outline c e path)

abbrev pub path_faults : Outline → ℕ → ℕ → Path → List Fault
path_faults outline c e path = if is_cell_number (last_name path.first path.rest).name then led_faults outline c e path else []

-- ---- items

abbrev pub value_faults : Outline → ℕ → ℕ → PropValue → List Fault
value_faults outline c e (prop_values.Link path) = path_faults outline c e path
value_faults outline c e _ = []

abbrev pub form_faults : Outline → ℕ → ℕ → CallbackForm → List Fault
form_faults outline c e (forms.Link path) = path_faults outline c e path
form_faults outline c e (forms.Signature parameters result) = []

abbrev pub link_faults : Outline → ℕ → ℕ → Ident → Path → List Fault
link_faults outline c e left right = number_faults outline.comps c e left false ++ path_faults outline c e right

abbrev pub change_faults : Outline → ℕ → ℕ → Change → List Fault
change_faults outline c e change = path_faults outline c e change.path

abbrev pub state_faults : Outline → ℕ → ℕ → State → List Fault
state_faults outline c e state = flat_map (change_faults outline c e) state.changes

-- an item alone; the bodies of elements stand for themselves
abbrev pub faults_in : Outline → ℕ → ℕ → Option Fault → ItemLayer → List Fault
faults_in outline c e first (Item-F.Property p) = value_faults outline c e p.value
faults_in outline c e first (Item-F.Callback callback) = form_faults outline c e callback.form
faults_in outline c e first (Item-F.Binding b) = binding_faults outline.comps c e b.name b.value
faults_in outline c e first (Item-F.Link l) = link_faults outline c e l.left l.right
faults_in outline c e first (Item-F.States list) = flat_map (state_faults outline c e) list.states
faults_in outline c e first (Item-F.Children span) = slot_faults outline.comps c e first span
faults_in outline c e first _ = []

abbrev pub one_item_faults : Outline → ℕ → ℕ → Option Fault → Item → List Fault
one_item_faults outline c e first item = faults_in outline c e first (out-Item item)

abbrev pub body_faults : Outline → ℕ → Option Fault → ℕ → WrittenElement → List Fault
body_faults outline c first e w = flat_map (one_item_faults outline c e first) w.body

abbrev pub bodies_faults : Outline → ℕ → List WrittenElement → List Fault
bodies_faults outline c written = numbered (body_faults outline c (first_slot written)) 0 written
