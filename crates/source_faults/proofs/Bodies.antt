-- The faults of names in bodies.
use Rattle.std.specs.List.{filter_map, flat_map}
use Rattle.std.specs.Str.{bytes_eq}
use Rattle.std.proofs.Common.{◌≡◌, ℕ, Bool, true, false, List, [], ◌∷◌, ◌++◌, map, codes, Option, Some, None, refl}
use Rattle.slint_base.specs.declared.faults.Fault.{Fault}
use Rattle.slint_base.specs.declared.faults.Span.{Span}
use Rattle.slint_base.specs.declared.rules.Rule.{Rule}
use Rattle.syntax_tree.specs.declared.items.Callback.{Callback}
use Rattle.syntax_tree.specs.declared.items.CallbackForm.{CallbackForm}
use Rattle.syntax_tree.specs.declared.items.CallbackForm.TheVariants as forms
use Rattle.syntax_tree.specs.declared.items.Change.{Change}
use Rattle.syntax_tree.specs.declared.items.Function.{Function}
use Rattle.syntax_tree.specs.declared.items.Handler.{Handler}
use Rattle.syntax_tree.specs.declared.items.Item.{Item, out-Item}
use Rattle.syntax_tree.specs.declared.items.Item.TheOpen.{Item-F}
use Rattle.syntax_tree.specs.declared.items.Link.{Link}
use Rattle.syntax_tree.specs.declared.items.Mark.{Mark}
use Rattle.syntax_tree.specs.declared.items.Mark.TheVariants as marks
use Rattle.syntax_tree.specs.declared.items.Parameter.{Parameter}
use Rattle.syntax_tree.specs.declared.items.PropValue.{PropValue}
use Rattle.syntax_tree.specs.declared.items.PropValue.TheVariants as prop_values
use Rattle.syntax_tree.specs.declared.items.Property.{Property}
use Rattle.syntax_tree.specs.declared.items.State.{State}
use Rattle.syntax_tree.specs.declared.types.Field.{Field}
use Rattle.syntax_tree.specs.declared.types.TypeName.{TypeName}
use Rattle.syntax_tree.specs.declared.words.Ident.{Ident}
use Rattle.syntax_tree.specs.declared.words.Path.{Path}
use Rattle.typed_tree.specs.declared.members.Found.{Found}
use Rattle.typed_tree.specs.declared.members.MemberKind.{MemberKind}
use Rattle.typed_tree.specs.declared.members.MemberKind.TheVariants as kinds
use Rattle.typed_tree.specs.declared.outlines.Outline.{Outline}
use Rattle.typed_tree.specs.declared.scopes.Site.{Site}
use Rattle.typed_tree.specs.declared.scopes.Site.TheVariants as site
use Rattle.typed_tree.specs.Members.{bindable, is_inside, linkable, readable}
use Rattle.typed_tree.specs.Scopes.{ScopeValue}
use Rattle.name_lookup.specs.declared.leads.Lead.{Lead}
use Rattle.name_lookup.specs.declared.leads.Lead.TheVariants as leads
use Rattle.name_lookup.specs.Leads.{body_scope, lead_of, own_member, path_name}
use Rattle.import_resolver.specs.Loaded.{FileRow}
use Rattle.source_elements.specs.Elements.{WrittenElement, written_in}
use Rattle.source_scopes.specs.Declarations.{FileComponent, FileGlobal, components_of, globals_of}
use Rattle.item_rules.specs.declared.names.NameKind.TheVariants as names
use Rattle.item_rules.specs.declared.uses.Use.{Use}
use Rattle.item_rules.specs.declared.uses.Use.TheVariants as uses
use Rattle.item_rules.specs.Items.{body_faults, callback_faults, change_faults, clash_faults, component_faults, element_faults, elements_faults, faults_in, form_faults, function_faults, global_faults, handled_faults, id_of, is_given, item_faults, link_faults, one_item_faults, parameter_faults, parameter_name, parameters_faults, property_faults, state_faults, state_name, states_faults, value_faults}
use Rattle.item_rules.specs.Named.{ItemLayer, name_by, names_faults}
use Rattle.item_rules.specs.Rows.{rows_around}
use Rattle.item_rules.specs.Twice.{is_there, twice_behind, twice_if, twice_in}
use Rattle.item_rules.specs.Types.{faults_of_fields, field_told, fields_faults, if_written, name_told, type_faults, type_layer}
use Rattle.item_rules.specs.Uses.{breach, callback_breach, handler_faults, kind_breach, lead_faults, left_mark, name_faults, path_faults, property_breach, told_at, unless}
use Rattle.source_faults.proofs.Others.{AllOther, both, counted, flat, if_either, is_missing, none, one}
use Rattle.source_faults.proofs.Fields as fields

if_twice : (b : Bool) (span : Span) → AllOther (twice_if b span)
if_twice true span = one refl
if_twice false span = none

twice_from : (before : List (List ℕ)) (words : List Ident) → AllOther (twice_behind before words)
twice_from before [] = none
twice_from before (x ∷ xs) = both (if_twice (is_there before x.name) x.span) (twice_from (before ++ x.name ∷ []) xs)

twice : (words : List Ident) → AllOther (twice_in words)
twice words = twice_from [] words

-- ---- types

fields_layer : (fs : List fields.FieldFaults) → AllOther (flat_map fields.inner fs) → AllOther (faults_of_fields fs)
fields_layer fs p = both (twice (map name_told fs)) p

in_type : (t : TypeName) → AllOther (type_faults t)
in_type t = fields.type_other type_layer (λ ident. none) (λ item span p. p) (λ fs span p. fields_layer fs p) t

in_fields : (fs : List Field) → AllOther (fields_faults fs)
in_fields fs = fields_layer (map field_told fs) (fields.fields_other type_layer (λ ident. none) (λ item span p. p) (λ gs span p. fields_layer gs p) fs)

may : {A : Type 0} (f : A → List Fault) → ((x : A) → AllOther (f x)) → (o : Option A) → AllOther (if_written f o)
may f p None = none
may f p (Some x) = p x

-- ---- uses

data OtherRule : Option Rule → Type 0 where
  no_rule : OtherRule None
  a_rule : {rule : Rule} → is_missing rule ≡ false → OtherRule (Some rule)

allowed : (b : Bool) → OtherRule (unless b)
allowed true = no_rule
allowed false = a_rule refl

of_property : (how : Use) (inside : Bool) (mark : Mark) → OtherRule (property_breach how inside mark)
of_property uses.Bind inside mark = allowed (bindable inside mark)
of_property uses.Watch inside mark = allowed (readable inside mark)
of_property uses.LinkLeft inside mark = allowed (bindable inside mark)
of_property (uses.LinkRight left) inside mark = allowed (linkable inside left mark)
of_property uses.Handle inside mark = a_rule refl

of_callback : (how : Use) → OtherRule (callback_breach how)
of_callback uses.Bind = a_rule refl
of_callback uses.Watch = a_rule refl
of_callback uses.LinkLeft = no_rule
of_callback (uses.LinkRight left) = no_rule
of_callback uses.Handle = no_rule

of_kind : (how : Use) (inside : Bool) (kind : MemberKind) → OtherRule (kind_breach how inside kind)
of_kind how inside (kinds.Property mark ty) = of_property how inside mark
of_kind how inside (kinds.Callback pure signature) = of_callback how
of_kind how inside (kinds.Function pure access signature) = a_rule refl

of_use : (here : Site) (how : Use) (found : Option Found) → OtherRule (breach here how found)
of_use here how None = a_rule refl
of_use here how (Some f) = of_kind how (is_inside here f.owner) f.kind

told : (span : Span) (rule : Option Rule) → OtherRule rule → AllOther (told_at span rule)
told span None p = none
told span (Some rule) (a_rule p) = one p

in_name : (s : ScopeValue) (how : Use) (x : Ident) → AllOther (name_faults s how x)
in_name s how x = told x.span (breach s.site how (own_member s x.name)) (of_use s.site how (own_member s x.name))

in_handler : (s : ScopeValue) (x : Ident) → AllOther (handler_faults s x)
in_handler s x = if_either (bytes_eq x.name (codes "init")) [] (name_faults s uses.Handle x) none (in_name s uses.Handle x)

in_lead : (here : Site) (how : Use) (last : Span) (lead : Lead) → AllOther (lead_faults here how last lead)
in_lead here how last (leads.Lost at) = one refl
in_lead here how last (leads.To f) = told last (breach here how (Some f)) (of_use here how (Some f))

in_path : (s : ScopeValue) (how : Use) (path : Path) → AllOther (path_faults s how path)
in_path s how path = in_lead s.site how (path_name path) (lead_of s path)

-- ---- items

clash : (s : ScopeValue) (x : Ident) → AllOther (clash_faults s x)
clash s x = if_twice (is_given s.outline s.site x.name) x.span

in_value : (s : ScopeValue) (mark : Mark) (v : PropValue) → AllOther (value_faults s mark v)
in_value s mark (prop_values.Link path) = in_path s (uses.LinkRight mark) path
in_value s mark (prop_values.Value v) = none
in_value s mark prop_values.None = none

in_property : (s : ScopeValue) (p : Property) → AllOther (property_faults s p)
in_property s p = both (clash s p.name) (both (may type_faults in_type p.ty) (in_value s p.mark p.value))

in_parameters : (ps : List Parameter) → AllOther (parameters_faults ps)
in_parameters ps = both (twice (filter_map parameter_name ps)) (flat parameter_faults (λ p. in_type p.ty) ps)

in_form : (s : ScopeValue) (form : CallbackForm) → AllOther (form_faults s form)
in_form s (forms.Link path) = in_path s (uses.LinkRight marks.None) path
in_form s (forms.Signature parameters ty) = both (may parameters_faults in_parameters parameters) (may type_faults in_type ty)

in_callback : (s : ScopeValue) (c : Callback) → AllOther (callback_faults s c)
in_callback s c = both (clash s c.name) (in_form s c.form)

in_function : (s : ScopeValue) (f : Function) → AllOther (function_faults s f)
in_function s f = both (clash s f.name) (both (in_fields f.parameters) (may type_faults in_type f.result))

in_link : (s : ScopeValue) (l : Link) → AllOther (link_faults s l)
in_link s l = both (in_name s uses.LinkLeft l.left) (in_path s (uses.LinkRight (left_mark (own_member s l.left.name))) l.right)

in_handled : (s : ScopeValue) (h : Handler) → AllOther (handled_faults s h)
in_handled s h = both (in_handler s h.name) (may twice_in twice h.parameters)

in_change : (s : ScopeValue) (change : Change) → AllOther (change_faults s change)
in_change s change = in_path s uses.Bind change.path

in_state : (s : ScopeValue) (state : State) → AllOther (state_faults s state)
in_state s state = flat (change_faults s) (in_change s) state.changes

in_states : (s : ScopeValue) (states : List State) → AllOther (states_faults s states)
in_states s states = both (twice (filter_map state_name states)) (flat (state_faults s) (in_state s) states)

in_layer : (s : ScopeValue) (layer : ItemLayer) → AllOther (faults_in s layer)
in_layer s (Item-F.Property p) = in_property s p
in_layer s (Item-F.Callback c) = in_callback s c
in_layer s (Item-F.Function f) = in_function s f
in_layer s (Item-F.Binding b) = in_name s uses.Bind b.name
in_layer s (Item-F.Link l) = in_link s l
in_layer s (Item-F.Handler h) = in_handled s h
in_layer s (Item-F.Changed c) = in_name s uses.Watch c.name
in_layer s (Item-F.States list) = in_states s list.states
in_layer s (Item-F.Element e) = none
in_layer s (Item-F.If i) = none
in_layer s (Item-F.For f) = none
in_layer s (Item-F.Children span) = none

in_names : (items : List Item) → AllOther (names_faults items)
in_names items = both (both (twice (filter_map (name_by names.Declared) items)) (twice (filter_map (name_by names.Bound) items)))
    (both (twice (filter_map (name_by names.Handled) items)) (twice (filter_map (name_by names.Watched) items)))

in_body : (s : ScopeValue) (items : List Item) → AllOther (body_faults s items)
in_body s items = both (in_names items) (flat (one_item_faults s) (λ item. in_layer s (out-Item item)) items)

in_element : (outline : Outline) (c : ℕ) (elements : List WrittenElement) (e : ℕ) (w : WrittenElement) → AllOther (element_faults outline c elements e w)
in_element outline c elements e w = in_body (body_scope outline (site.Element c e) (rows_around elements (site.Element c e))) w.body

in_elements : (outline : Outline) (c : ℕ) (elements : List WrittenElement) → AllOther (elements_faults outline c elements)
in_elements outline c elements = both (twice (filter_map id_of elements)) (counted (element_faults outline c elements) (in_element outline c elements) 0 elements)

in_component : (outline : Outline) (c : ℕ) (declared : FileComponent) → AllOther (component_faults outline c declared)
in_component outline c declared = in_elements outline c (written_in declared.component)

in_global : (outline : Outline) (g : ℕ) (declared : FileGlobal) → AllOther (global_faults outline g declared)
in_global outline g declared = in_body (body_scope outline (site.Global g) []) declared.global.items

pub items_other : (rows : List FileRow) (outline : Outline) → AllOther (item_faults rows outline)
items_other rows outline = both (counted (component_faults outline) (in_component outline) 0 (components_of rows)) (counted (global_faults outline) (in_global outline) 0 (globals_of rows))
