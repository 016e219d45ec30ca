-- The faults of names in bodies, of which the first is told before any expression is looked at.
use Rattle.std.specs.Prelude.{ℕ, Bool, false, List, [], ◌++◌, Option, Some}
use Rattle.std.specs.List.{filter_map, flat_map}
use Rattle.std.specs.Option.{is_some}
use Rattle.slint_base.specs.declared.faults.Fault.{Fault}
use Rattle.syntax_tree.specs.declared.items.Callback.{Callback}
use Rattle.syntax_tree.specs.declared.items.CallbackForm.{CallbackForm}
use Rattle.syntax_tree.specs.declared.items.CallbackForm.TheVariants as forms
use Rattle.syntax_tree.specs.declared.items.Change.{Change}
use Rattle.syntax_tree.specs.declared.items.Function.{Function}
use Rattle.syntax_tree.specs.declared.items.Handler.{Handler}
use Rattle.syntax_tree.specs.declared.items.Item.{Item, out-Item}
use Rattle.syntax_tree.specs.declared.items.Item.TheOpen.{Item-F}
use Rattle.syntax_tree.specs.declared.items.Link.{Link}
use Rattle.syntax_tree.specs.declared.items.Mark.{Mark}
use Rattle.syntax_tree.specs.declared.items.Mark.TheVariants as marks
use Rattle.syntax_tree.specs.declared.items.Parameter.{Parameter}
use Rattle.syntax_tree.specs.declared.items.PropValue.{PropValue}
use Rattle.syntax_tree.specs.declared.items.PropValue.TheVariants as prop_values
use Rattle.syntax_tree.specs.declared.items.Property.{Property}
use Rattle.syntax_tree.specs.declared.items.State.{State}
use Rattle.syntax_tree.specs.declared.words.Ident.{Ident}
use Rattle.typed_tree.specs.declared.outlines.Outline.{Outline}
use Rattle.typed_tree.specs.declared.scopes.Site.{Site}
use Rattle.typed_tree.specs.declared.scopes.Site.TheVariants as site
use Rattle.typed_tree.specs.Elements.{lineage, type_of}
use Rattle.typed_tree.specs.Members.{given_by}
use Rattle.typed_tree.specs.Scopes.{ScopeValue}
use Rattle.name_lookup.specs.Leads.{body_scope, own_member}
use Rattle.import_resolver.specs.Loaded.{FileRow}
use Rattle.source_elements.specs.Elements.{WrittenElement, written_in}
use Rattle.source_scopes.specs.Declarations.{FileComponent, FileGlobal, components_of, globals_of}
use Rattle.item_rules.specs.declared.uses.Use.TheVariants as uses
use Rattle.item_rules.specs.Named.{ItemLayer, names_faults}
use Rattle.item_rules.specs.Rows.{rows_around}
use Rattle.item_rules.specs.Twice.{twice_if, twice_in}
use Rattle.fault_order.specs.Order.{numbered}
use Rattle.item_rules.specs.Types.{fields_faults, if_written, type_faults}
use Rattle.item_rules.specs.Uses.{handler_faults, left_mark, name_faults, path_faults}

-- an element's type gives it a member of a name; a global has no type
abbrev pub is_given : Outline → Site → List ℕ → Bool
is_given outline (site.Element c e) name = is_some (given_by outline.comps e name (lineage outline.comps (type_of outline.comps c e)))
is_given outline (site.Global g) name = false

-- a name that is declared in a body although the element has it from its type
abbrev pub clash_faults : ScopeValue → Ident → List Fault
clash_faults s x = twice_if (is_given s.outline s.site x.name) x.span

-- a property
abbrev pub value_faults : ScopeValue → Mark → PropValue → List Fault
value_faults s mark (prop_values.Link path) = path_faults s (uses.LinkRight mark) path
value_faults s mark _ = []

abbrev pub property_faults : ScopeValue → Property → List Fault
property_faults s p = clash_faults s p.name ++ (if_written type_faults p.ty ++ value_faults s p.mark p.value)

-- a callback
abbrev pub parameter_name : Parameter → Option Ident
parameter_name p = p.name

abbrev pub parameter_faults : Parameter → List Fault
parameter_faults p = type_faults p.ty

abbrev pub parameters_faults : List Parameter → List Fault
parameters_faults ps = twice_in (filter_map parameter_name ps) ++ flat_map parameter_faults ps

abbrev pub form_faults : ScopeValue → CallbackForm → List Fault
form_faults s (forms.Link path) = path_faults s (uses.LinkRight marks.None) path
form_faults s (forms.Signature parameters ty) = if_written parameters_faults parameters ++ if_written type_faults ty

abbrev pub callback_faults : ScopeValue → Callback → List Fault
callback_faults s c = clash_faults s c.name ++ form_faults s c.form

-- a function
abbrev pub function_faults : ScopeValue → Function → List Fault
function_faults s f = clash_faults s f.name ++ (fields_faults f.parameters ++ if_written type_faults f.result)

-- a link
abbrev pub link_faults : ScopeValue → Link → List Fault
link_faults s l = name_faults s uses.LinkLeft l.left ++ path_faults s (uses.LinkRight (left_mark (own_member s l.left.name))) l.right

-- a handler
abbrev pub handled_faults : ScopeValue → Handler → List Fault
handled_faults s h = handler_faults s h.name ++ if_written twice_in h.parameters

-- a list of states
abbrev pub change_faults : ScopeValue → Change → List Fault
change_faults s change = path_faults s uses.Bind change.path

abbrev pub state_faults : ScopeValue → State → List Fault
state_faults s state = flat_map (change_faults s) state.changes

abbrev pub state_name : State → Option Ident
state_name state = Some state.name

abbrev pub states_faults : ScopeValue → List State → List Fault
states_faults s states = twice_in (filter_map state_name states) ++ flat_map (state_faults s) states

-- an item alone; the bodies of elements stand for themselves
abbrev pub faults_in : ScopeValue → ItemLayer → List Fault
faults_in s (Item-F.Property p) = property_faults s p
faults_in s (Item-F.Callback c) = callback_faults s c
faults_in s (Item-F.Function f) = function_faults s f
faults_in s (Item-F.Binding b) = name_faults s uses.Bind b.name
faults_in s (Item-F.Link l) = link_faults s l
faults_in s (Item-F.Handler h) = handled_faults s h
faults_in s (Item-F.Changed c) = name_faults s uses.Watch c.name
faults_in s (Item-F.States list) = states_faults s list.states
faults_in s (Item-F.Element e) = []
faults_in s (Item-F.If i) = []
faults_in s (Item-F.For f) = []
faults_in s (Item-F.Children span) = []

abbrev pub one_item_faults : ScopeValue → Item → List Fault
one_item_faults s item = faults_in s (out-Item item)

-- a body: its names, and its items one by one
abbrev pub body_faults : ScopeValue → List Item → List Fault
body_faults s items = names_faults items ++ flat_map (one_item_faults s) items

-- a component: ids that stand twice, and the bodies of its elements
abbrev pub id_of : WrittenElement → Option Ident
id_of w = w.id

abbrev pub element_faults : Outline → ℕ → List WrittenElement → ℕ → WrittenElement → List Fault
element_faults outline c elements e w = body_faults (body_scope outline (site.Element c e) (rows_around elements (site.Element c e))) w.body

abbrev pub elements_faults : Outline → ℕ → List WrittenElement → List Fault
elements_faults outline c elements = twice_in (filter_map id_of elements) ++ numbered (element_faults outline c elements) 0 elements

abbrev pub component_faults : Outline → ℕ → FileComponent → List Fault
component_faults outline c declared = elements_faults outline c (written_in declared.component)

-- a global
abbrev pub global_faults : Outline → ℕ → FileGlobal → List Fault
global_faults outline g declared = body_faults (body_scope outline (site.Global g) []) declared.global.items

-- a source: all components and globals
abbrev pub item_faults : List FileRow → Outline → List Fault
item_faults rows outline = numbered (component_faults outline) 0 (components_of rows) ++ numbered (global_faults outline) 0 (globals_of rows)
