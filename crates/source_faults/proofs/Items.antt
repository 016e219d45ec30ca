-- What items of bodies, conditions and models break.
use Rattle.std.specs.Str.{bytes_eq}
use Rattle.std.proofs.Common.{if◌then◌else◌, Bool, true, false, ◌&&◌, ◌||◌, nat_le, codes, List, length, Option, Some, None, Result, Ok, Err, refl}
use Rattle.slint_base.specs.declared.faults.Fault.{Fault}
use Rattle.slint_base.specs.declared.faults.Span.{Span}
use Rattle.slint_base.specs.declared.rules.Rule.TheVariants as rules
use Rattle.syntax_tree.specs.declared.expressions.Expr.{Expr}
use Rattle.syntax_tree.specs.declared.words.Ident.{Ident}
use Rattle.syntax_tree.specs.declared.words.Path.{Path}
use Rattle.syntax_tree.specs.declared.statements.Block.{Block, out-Block}
use Rattle.syntax_tree.specs.declared.statements.Value.{Value}
use Rattle.syntax_tree.specs.declared.statements.Value.TheVariants as values
use Rattle.syntax_tree.specs.declared.items.Callback.{Callback}
use Rattle.syntax_tree.specs.declared.items.CallbackForm.{CallbackForm}
use Rattle.syntax_tree.specs.declared.items.CallbackForm.TheVariants as forms
use Rattle.syntax_tree.specs.declared.items.Change.{Change}
use Rattle.syntax_tree.specs.declared.items.Changed.{Changed}
use Rattle.syntax_tree.specs.declared.items.Function.{Function}
use Rattle.syntax_tree.specs.declared.items.Handler.{Handler}
use Rattle.syntax_tree.specs.declared.items.Item.{Item, out-Item}
use Rattle.syntax_tree.specs.declared.items.Item.TheOpen.{Item-F}
use Rattle.syntax_tree.specs.declared.items.PropValue.{PropValue}
use Rattle.syntax_tree.specs.declared.items.PropValue.TheVariants as prop_values
use Rattle.syntax_tree.specs.declared.items.Property.{Property}
use Rattle.syntax_tree.specs.declared.items.State.{State}
use Rattle.syntax_tree.specs.declared.items.States.{States}
use Rattle.syntax_tree.specs.Spans.{expr_span}
use Rattle.value_types.specs.declared.types.Ty.{Ty}
use Rattle.value_types.specs.declared.types.Ty.TheVariants as ty
use Rattle.typed_tree.specs.declared.members.ElementMember.TheVariants as element_member
use Rattle.typed_tree.specs.declared.members.Found.{Found}
use Rattle.typed_tree.specs.declared.members.MemberKind.{MemberKind}
use Rattle.typed_tree.specs.declared.members.MemberKind.TheVariants as kinds
use Rattle.typed_tree.specs.declared.members.MemberRef.{MemberRef}
use Rattle.typed_tree.specs.declared.members.MemberRef.TheVariants as member_ref
use Rattle.typed_tree.specs.declared.members.Signature.{Signature}
use Rattle.typed_tree.specs.declared.outlines.Outline.{Outline}
use Rattle.typed_tree.specs.declared.scopes.RowNames.{RowNames}
use Rattle.typed_tree.specs.declared.scopes.Site.{Site}
use Rattle.typed_tree.specs.declared.statements.TypedValue.{TypedValue}
use Rattle.typed_tree.specs.declared.statements.TypedValue.TheVariants as typed_values
use Rattle.typed_tree.specs.declared.trees.HandlerOf.{HandlerOf}
use Rattle.typed_tree.specs.declared.trees.HandlerOf.TheVariants as handler_of
use Rattle.typed_tree.specs.Scopes.{ScopeValue}
use Rattle.name_lookup.specs.declared.leads.Lead.{Lead}
use Rattle.name_lookup.specs.declared.leads.Lead.TheVariants as leads
use Rattle.name_lookup.specs.Leads.{body_scope, lead_of, own_member, path_name}
use Rattle.expr_rules.specs.Denotations.{on_ok}
use Rattle.expr_types.specs.Nodes.{At, Body, Denotes}
use Rattle.item_types.specs.Judging.{Judging, both_told, each, made, optional}
use Rattle.item_types.specs.Judging as judging
use Rattle.item_types.specs.Items.{ItemLayer, binding_judging, binding_of, bound, callback_judging, change_judging, change_of, change_to, changed_judging, changed_run, function_body, function_judging, handler_judging, handler_run, item_judging, link, linked, property_judging, same_kind, something, state_judging, states_judging}
use Rattle.item_types.specs.Members.{callback_found, callback_of, counted, field_names, function_found, function_numbered, function_of, handled, is_below_root, is_function, is_grid_number, is_size, locals, names_or_none, no_signature, path_span, property_found, property_led, property_of, side_found, side_led, side_of, with_parameters}
use Rattle.item_types.specs.Rows.{array_rows, counted_rows}
use Rattle.item_types.specs.Typing.{condition_in, item_in, model_in}
use Rattle.item_types.specs.Values.{block_judging, bound_value, constant, expression_judging, is_constant, numbered_value, plain, share, sized_value, standing_judging, value_judging, value_span}
use Rattle.source_faults.proofs.Others.{IsOther}
use Rattle.source_faults.proofs.Results.{OrFault, fault, fine, going_on}
use Rattle.source_faults.proofs.Expressions.{node_other, or_broken, or_own, own_or}
use Rattle.source_faults.proofs.Judgements.{Others, all, first_way, known, maybe, onward, pair, same, second_way, whole}

-- ---- values

an_expression : (s : ScopeValue) (t : Ty) (e : Expr) → Others (expression_judging s t e)
an_expression s t e = record { each = node_other s (At (Some t) e) }

a_block : (s : ScopeValue) (t : Ty) (b : Block) → Others (block_judging s t b)
a_block s t b = record { each = node_other s (Body t (out-Block b).stmts (out-Block b).span) }

standing : (s : ScopeValue) (e : Expr) → Others (standing_judging s e)
standing s e = record { each = node_other s (Denotes None e) }

a_value : (s : ScopeValue) (t : Ty) (v : Value) → Others (value_judging s t v)
a_value s t (values.Expr e) = same (expression_judging s t e) (λ x. typed_values.Expr x) (an_expression s t e)
a_value s t (values.Block b) = same (block_judging s t b) (λ x. typed_values.Block x) (a_block s t b)

is_constant_or : (v : Value) (x : TypedValue) → OrFault (constant v x)
is_constant_or v x = or_broken (is_constant v) (plain x) rules.NotConstant (value_span v) refl

sized : (s : ScopeValue) (size : Bool) (t : Ty) (v : Value) → Others (sized_value s size t v)
sized s true t v = first_way (made (value_judging s t v) plain) (made (value_judging s ty.Percent v) share) (same (value_judging s t v) plain (a_value s t v))
sized s false t v = same (value_judging s t v) plain (a_value s t v)

numbered : (s : ScopeValue) (grid size : Bool) (t : Ty) (v : Value) → Others (numbered_value s grid size t v)
numbered s true size t v = whole (value_judging s t v) (constant v) (a_value s t v) (is_constant_or v)
numbered s false size t v = sized s size t v

a_bound : (s : ScopeValue) (member : MemberRef) (t : Ty) (v : Value) → Others (bound_value s member t v)
a_bound s member t v = numbered s (is_grid_number member) (is_below_root s.site && is_size member) t v

-- ---- members

a_property : (span : Span) (member : MemberRef) (kind : MemberKind) → OrFault (property_of span member kind)
a_property span member (kinds.Property mark t) = fine
a_property span member (kinds.Callback pure signature) = fault refl
a_property span member (kinds.Function pure access signature) = fault refl

finds_property : (span : Span) (found : Option Found) → OrFault (property_found span found)
finds_property span None = fault refl
finds_property span (Some f) = a_property span f.member f.kind

leads_to : (path : Path) (lead : Lead) → OrFault (property_led path lead)
leads_to path (leads.Lost span) = fault refl
leads_to path (leads.To f) = a_property (path_name path) f.member f.kind

a_number : (span : Span) (member : MemberRef) (signature : Signature) → OrFault (function_numbered span member signature)
a_number span (member_ref.Element e (element_member.Declared c n)) signature = fine
a_number span (member_ref.Element e (element_member.BuiltIn n)) signature = fault refl
a_number span (member_ref.Global g n) signature = fine

a_function : (span : Span) (member : MemberRef) (kind : MemberKind) → OrFault (function_of span member kind)
a_function span member (kinds.Function pure access signature) = a_number span member signature
a_function span member (kinds.Property mark t) = fault refl
a_function span member (kinds.Callback pure signature) = fault refl

finds_function : (span : Span) (found : Option Found) → OrFault (function_found span found)
finds_function span None = fault refl
finds_function span (Some f) = a_function span f.member f.kind

a_callback : (span : Span) (member : MemberRef) (kind : MemberKind) → OrFault (callback_of span member kind)
a_callback span member (kinds.Callback pure signature) = fine
a_callback span member (kinds.Property mark t) = fault refl
a_callback span member (kinds.Function pure access signature) = fault refl

finds_callback : (span : Span) (found : Option Found) → OrFault (callback_found span found)
finds_callback span None = fault refl
finds_callback span (Some f) = a_callback span f.member f.kind

if_init : {A : Type 0} (b : Bool) (a : A) (r : Result A Fault) → OrFault r → OrFault (if b then Ok a else r)
if_init true a r p = fine
if_init false a r p = p

handles : (s : ScopeValue) (name : Ident) → OrFault (handled s name)
handles s name = if_init (bytes_eq name.name (codes "init")) (handler_of.Init, no_signature) (callback_found name.span (own_member s name.name)) (finds_callback name.span (own_member s name.name))

counts : (span : Span) (names : List Ident) (h : HandlerOf × Signature) → OrFault (counted span names h)
counts span names h = or_broken (nat_le (length names) (length h.1.parameters)) h rules.ArgCount span refl

a_side : (span : Span) (f : Found) → OrFault (side_of span f)
a_side span f = or_own (is_function f.kind) rules.UnknownName span (Ok f) refl fine

finds_side : (span : Span) (found : Option Found) → OrFault (side_found span found)
finds_side span None = fault refl
finds_side span (Some f) = a_side span f

leads_side : (path : Path) (lead : Lead) → OrFault (side_led path lead)
leads_side path (leads.Lost span) = fault refl
leads_side path (leads.To f) = a_side (path_name path) f

-- ---- items

binds : (s : ScopeValue) (name : Ident) (v : Value) → Others (binding_judging s name v)
binds s name v = onward (property_found name.span (own_member s name.name)) (bound s v) (finds_property name.span (own_member s name.name))
    (λ p. same (bound_value s p.0 p.1 v) (binding_of p.0 (value_span v)) (a_bound s p.0 p.1 v))

if_earlier : (b : Bool) (f g : Fault) → IsOther f → IsOther g → IsOther (if b then g else f)
if_earlier true f g p q = q
if_earlier false f g p q = p

both_sides : {X Y : Type 0} (a : Result X Fault) (b : Result Y Fault) → OrFault a → OrFault b → OrFault (both_told a b)
both_sides (Ok x) (Ok y) p q = fine
both_sides (Ok x) (Err g) p (fault q) = fault q
both_sides (Err f) (Ok y) (fault p) q = fault p
both_sides (Err f) (Err g) (fault p) (fault q) = fault (if_earlier _ f g p q)

links : (span side : Span) (sides : Found × Found) → OrFault (linked span side sides)
links span side sides = own_or (same_kind sides.0.kind sides.1.kind) rules.AliasTypes span _ refl
    (or_own (is_grid_number sides.0.member || is_grid_number sides.1.member) rules.NotConstant span _ refl fine)

a_link : (s : ScopeValue) (left : Ident) (path : Path) (span : Span) → OrFault (link s left path span)
a_link s left path span = going_on (both_told (side_found left.span (own_member s left.name)) (side_led path (lead_of s path))) (linked span (path_span path))
    (both_sides (side_found left.span (own_member s left.name)) (side_led path (lead_of s path)) (finds_side left.span (own_member s left.name)) (leads_side path (lead_of s path)))
    (links span (path_span path))

runs : (s : ScopeValue) (f : Function) → Others (function_judging s f)
runs s f = onward (function_found f.name.span (own_member s f.name.name)) (function_body s f) (finds_function f.name.span (own_member s f.name.name))
    (λ found. same (block_judging (with_parameters s (locals (field_names f.parameters) found.1.parameters)) found.1.result f.body) _
    (a_block (with_parameters s (locals (field_names f.parameters) found.1.parameters)) found.1.result f.body))

hears : (s : ScopeValue) (h : Handler) → Others (handler_judging s h)
hears s h = onward (on_ok (handled s h.name) (counted h.span (names_or_none h.parameters))) (handler_run s h)
    (going_on (handled s h.name) (counted h.span (names_or_none h.parameters)) (handles s h.name) (counts h.span (names_or_none h.parameters)))
    (λ found. same (value_judging (with_parameters s (locals (names_or_none h.parameters) found.1.parameters)) found.1.result h.run) _
    (a_value (with_parameters s (locals (names_or_none h.parameters) found.1.parameters)) found.1.result h.run))

watches : (s : ScopeValue) (c : Changed) → Others (changed_judging s c)
watches s c = onward (property_found c.name.span (own_member s c.name.name)) (changed_run s c.run) (finds_property c.name.span (own_member s c.name.name))
    (λ p. same (value_judging s ty.Void c.run) _ (a_value s ty.Void c.run))

changes : (member : MemberRef) (c : Change) (x : TypedValue) → OrFault (change_of member c x)
changes member c x = or_own (is_grid_number member) rules.NotConstant (value_span c.value) _ refl fine

a_change : (s : ScopeValue) (c : Change) → Others (change_judging s c)
a_change s c = onward (property_led c.path (lead_of s c.path)) (change_to s c) (leads_to c.path (lead_of s c.path))
    (λ p. whole (value_judging s p.1 c.value) (change_of p.0 c) (a_value s p.1 c.value) (changes p.0 c))

a_state : (s : ScopeValue) (st : State) → Others (state_judging s st)
a_state s st = same (judging.both (optional (expression_judging s ty.Bool) st.when) (each (change_judging s) st.changes)) _
    (pair (optional (expression_judging s ty.Bool) st.when) (each (change_judging s) st.changes) (maybe (expression_judging s ty.Bool) (an_expression s ty.Bool) st.when) (all (change_judging s) (a_change s) st.changes))

states : (s : ScopeValue) (list : States) → Others (states_judging s list)
states s list = same (each (state_judging s) list.states) _ (all (state_judging s) (a_state s) list.states)

some : (item : Judging _) → Others item → Others (something item)
some item p = same item (λ x. Some x) p

in_property : (s : ScopeValue) (p : Property) (v : PropValue) → Others (property_judging s p v)
in_property s p prop_values.None = known (Ok None) fine
in_property s p (prop_values.Value v) = some (binding_judging s p.name v) (binds s p.name v)
in_property s p (prop_values.Link path) = some (judging.at_once (link s p.name path p.span)) (known (link s p.name path p.span) (a_link s p.name path p.span))

in_callback : (s : ScopeValue) (c : Callback) (form : CallbackForm) → Others (callback_judging s c form)
in_callback s c (forms.Link path) = some (judging.at_once (link s c.name path c.span)) (known (link s c.name path c.span) (a_link s c.name path c.span))
in_callback s c (forms.Signature parameters result) = known (Ok None) fine

in_layer : (s : ScopeValue) (layer : ItemLayer) → Others (item_judging s layer)
in_layer s (Item-F.Property p) = in_property s p p.value
in_layer s (Item-F.Callback c) = in_callback s c c.form
in_layer s (Item-F.Function f) = some (function_judging s f) (runs s f)
in_layer s (Item-F.Binding b) = some (binding_judging s b.name b.value) (binds s b.name b.value)
in_layer s (Item-F.Link l) = some (judging.at_once (link s l.left l.right l.span)) (known (link s l.left l.right l.span) (a_link s l.left l.right l.span))
in_layer s (Item-F.Handler h) = some (handler_judging s h) (hears s h)
in_layer s (Item-F.Changed c) = some (changed_judging s c) (watches s c)
in_layer s (Item-F.States list) = some (states_judging s list) (states s list)
in_layer s (Item-F.Element e) = known (Ok None) fine
in_layer s (Item-F.If i) = known (Ok None) fine
in_layer s (Item-F.For f) = known (Ok None) fine
in_layer s (Item-F.Children span) = known (Ok None) fine

-- ---- in bodies

pub item_other : (outline : Outline) (at : Site) (rows : List RowNames) (x : Item) → Others (item_in outline at rows x)
item_other outline at rows x = in_layer (body_scope outline at rows) (out-Item x)

pub condition_other : (outline : Outline) (at : Site) (rows : List RowNames) (e : Expr) → Others (condition_in outline at rows e)
condition_other outline at rows e = an_expression (body_scope outline at rows) ty.Bool e

pub model_other : (outline : Outline) (at : Site) (rows : List RowNames) (e : Expr) → Others (model_in outline at rows e)
model_other outline at rows e = second_way (judging.owned (standing_judging (body_scope outline at rows) e) (array_rows (body_scope outline at rows) (expr_span e)))
    (made (expression_judging (body_scope outline at rows) ty.Int e) (counted_rows (expr_span e)))
    (same (expression_judging (body_scope outline at rows) ty.Int e) (counted_rows (expr_span e)) (an_expression (body_scope outline at rows) ty.Int e))
