-- Each item, condition and model tells one thing: part by part, as it is made.
use Rattle.std.proofs.Common.{ℕ, Bool, true, false, List, Option, Some, None, Result, Ok, Err}
use Rattle.slint_base.specs.declared.faults.Fault.{Fault}
use Rattle.slint_base.specs.declared.faults.Span.{Span}
use Rattle.syntax_tree.specs.declared.expressions.Expr.{Expr}
use Rattle.syntax_tree.specs.declared.items.Callback.{Callback}
use Rattle.syntax_tree.specs.declared.items.CallbackForm.{CallbackForm}
use Rattle.syntax_tree.specs.declared.items.CallbackForm.TheVariants as forms
use Rattle.syntax_tree.specs.declared.items.Change.{Change}
use Rattle.syntax_tree.specs.declared.items.Changed.{Changed}
use Rattle.syntax_tree.specs.declared.items.Function.{Function}
use Rattle.syntax_tree.specs.declared.items.Handler.{Handler}
use Rattle.syntax_tree.specs.declared.items.Item.TheOpen.{Item-F}
use Rattle.syntax_tree.specs.declared.items.PropValue.{PropValue}
use Rattle.syntax_tree.specs.declared.items.PropValue.TheVariants as prop_values
use Rattle.syntax_tree.specs.declared.items.Property.{Property}
use Rattle.syntax_tree.specs.declared.items.State.{State}
use Rattle.syntax_tree.specs.declared.items.States.{States}
use Rattle.syntax_tree.specs.declared.statements.Value.{Value}
use Rattle.syntax_tree.specs.declared.statements.Value.TheVariants as values
use Rattle.syntax_tree.specs.declared.words.Ident.{Ident}
use Rattle.syntax_tree.specs.Spans.{expr_span}
use Rattle.value_types.specs.declared.types.Ty.{Ty}
use Rattle.value_types.specs.declared.types.Ty.TheVariants as ty
use Rattle.typed_tree.specs.declared.members.MemberRef.{MemberRef}
use Rattle.typed_tree.specs.declared.members.Signature.{Signature}
use Rattle.typed_tree.specs.declared.statements.TypedValue.TheVariants as typed_values
use Rattle.typed_tree.specs.declared.trees.HandlerOf.{HandlerOf}
use Rattle.typed_tree.specs.declared.trees.TypedFor.{TypedFor}
use Rattle.typed_tree.specs.declared.trees.TypedItem.{TypedItem}
use Rattle.typed_tree.specs.declared.trees.TypedItem.TheVariants as typed_items
use Rattle.typed_tree.specs.Scopes.{ScopeValue}
use Rattle.name_lookup.specs.Leads.{own_member, lead_of}
use Rattle.expr_rules.specs.Denotations.{on_ok}
use Rattle.item_types.specs.Judging.{Judging, at_once, owned, made, both, each, optional, Told}
use Rattle.item_types.specs.Members.{property_found, property_led, function_found, handled, counted, locals, names_or_none, field_names, with_parameters, is_grid_number, is_below_root, is_size}
use Rattle.item_types.specs.Values.{expression_judging, block_judging, standing_judging, value_judging, value_span, plain, share, constant, constants, shares, sized_value, numbered_value, bound_value}
use Rattle.item_types.specs.Items.{binding_of, bound, binding_judging, link, function_body, function_judging, handler_run, handler_judging, changed_run, changed_judging, change_of, change_to, change_judging, state_judging, states_judging, nothing, something, property_judging, callback_judging, item_judging, ItemLayer}
use Rattle.item_types.specs.Rows.{array_rows, counted_rows, model_judging}
use Rattle.item_types.proofs.Leaves.{expression_sound, block_sound, standing_sound, expression_some, block_some, standing_some}
use Rattle.item_types.proofs.Telling.{Sound, at_once_sound, at_once_some, going_sound, going_some, owned_sound, owned_some, made_sound, both_sound, both_some, each_sound, each_some, optional_sound, optional_some, else_sound, else_some, as_sound, as_some}

made_some : {X Y : Type 0} (j : Judging X) (make : X → Y) → Sound j → Told j → Told (made j make)
made_some j make s t = owned_some j (λ x. Ok (make x)) s t

-- values

pub value_sound : (s : ScopeValue) (t : Ty) (v : Value) → Sound (value_judging s t v)
value_sound s t (values.Expr e) = made_sound (expression_judging s t e) (λ x. typed_values.Expr x) (expression_sound s t e)
value_sound s t (values.Block b) = made_sound (block_judging s t b) (λ x. typed_values.Block x) (block_sound s t b)

value_some : (s : ScopeValue) (t : Ty) (v : Value) → Told (value_judging s t v)
value_some s t (values.Expr e) = made_some (expression_judging s t e) (λ x. typed_values.Expr x) (expression_sound s t e) (expression_some s t e)
value_some s t (values.Block b) = made_some (block_judging s t b) (λ x. typed_values.Block x) (block_sound s t b) (block_some s t b)

plain_sound : (s : ScopeValue) (t : Ty) (v : Value) → Sound (made (value_judging s t v) plain)
plain_sound s t v = made_sound (value_judging s t v) plain (value_sound s t v)

plain_some : (s : ScopeValue) (t : Ty) (v : Value) → Told (made (value_judging s t v) plain)
plain_some s t v = made_some (value_judging s t v) plain (value_sound s t v) (value_some s t v)

share_sound : (s : ScopeValue) (t : Ty) (v : Value) → Sound (made (value_judging s t v) share)
share_sound s t v = made_sound (value_judging s t v) share (value_sound s t v)

share_some : (s : ScopeValue) (t : Ty) (v : Value) → Told (made (value_judging s t v) share)
share_some s t v = made_some (value_judging s t v) share (value_sound s t v) (value_some s t v)

sized_sound : (s : ScopeValue) (size : Bool) (t : Ty) (v : Value) → Sound (sized_value s size t v)
sized_sound s true t v = else_sound (made (value_judging s t v) plain) (made (value_judging s ty.Percent v) share) (plain_sound s t v) (share_sound s ty.Percent v)
sized_sound s false t v = plain_sound s t v

sized_some : (s : ScopeValue) (size : Bool) (t : Ty) (v : Value) → Told (sized_value s size t v)
sized_some s true t v = else_some (made (value_judging s t v) plain) (made (value_judging s ty.Percent v) share) (plain_some s t v) (share_some s ty.Percent v)
sized_some s false t v = plain_some s t v

numbered_sound : (s : ScopeValue) (number size : Bool) (t : Ty) (v : Value) → Sound (numbered_value s number size t v)
numbered_sound s true size t v = owned_sound (value_judging s t v) (constant v) (value_sound s t v)
numbered_sound s false size t v = sized_sound s size t v

numbered_some : (s : ScopeValue) (number size : Bool) (t : Ty) (v : Value) → Told (numbered_value s number size t v)
numbered_some s true size t v = owned_some (value_judging s t v) (constant v) (value_sound s t v) (value_some s t v)
numbered_some s false size t v = sized_some s size t v

pub bound_value_sound : (s : ScopeValue) (member : MemberRef) (t : Ty) (v : Value) → Sound (bound_value s member t v)
bound_value_sound s member t v = numbered_sound s (is_grid_number member) _ t v

bound_value_some : (s : ScopeValue) (member : MemberRef) (t : Ty) (v : Value) → Told (bound_value s member t v)
bound_value_some s member t v = numbered_some s (is_grid_number member) _ t v

-- bindings

pub bound_sound : (s : ScopeValue) (v : Value) (p : MemberRef × Ty) → Sound (bound s v p)
bound_sound s v p = made_sound (bound_value s p.0 p.1 v) (binding_of p.0 (value_span v)) (bound_value_sound s p.0 p.1 v)

bound_some : (s : ScopeValue) (v : Value) (p : MemberRef × Ty) → Told (bound s v p)
bound_some s v p = made_some (bound_value s p.0 p.1 v) (binding_of p.0 (value_span v)) (bound_value_sound s p.0 p.1 v) (bound_value_some s p.0 p.1 v)

pub binding_sound : (s : ScopeValue) (name : Ident) (v : Value) → Sound (binding_judging s name v)
binding_sound s name v = going_sound (bound s v) (property_found name.span (own_member s name.name)) (bound_sound s v)

binding_some : (s : ScopeValue) (name : Ident) (v : Value) → Told (binding_judging s name v)
binding_some s name v = going_some (bound s v) (property_found name.span (own_member s name.name)) (bound_some s v)

-- functions, handlers and what watches

abbrev function_scope : ScopeValue → Function → Signature → ScopeValue
function_scope s f signature = with_parameters s (locals (field_names f.parameters) signature.parameters)

pub function_body_sound : (s : ScopeValue) (f : Function) (p : ℕ × Signature) → Sound (function_body s f p)
function_body_sound s f p = made_sound (block_judging (function_scope s f p.1) p.1.result f.body) (λ b. typed_items.Function (record { number = p.0; body = b })) (block_sound (function_scope s f p.1) p.1.result f.body)

function_body_some : (s : ScopeValue) (f : Function) (p : ℕ × Signature) → Told (function_body s f p)
function_body_some s f p = made_some (block_judging (function_scope s f p.1) p.1.result f.body) (λ b. typed_items.Function (record { number = p.0; body = b })) (block_sound (function_scope s f p.1) p.1.result f.body) (block_some (function_scope s f p.1) p.1.result f.body)

pub function_sound : (s : ScopeValue) (f : Function) → Sound (function_judging s f)
function_sound s f = going_sound (function_body s f) (function_found f.name.span (own_member s f.name.name)) (function_body_sound s f)

function_some : (s : ScopeValue) (f : Function) → Told (function_judging s f)
function_some s f = going_some (function_body s f) (function_found f.name.span (own_member s f.name.name)) (function_body_some s f)

abbrev handler_scope : ScopeValue → Handler → Signature → ScopeValue
handler_scope s h signature = with_parameters s (locals (names_or_none h.parameters) signature.parameters)

pub handler_run_sound : (s : ScopeValue) (h : Handler) (p : HandlerOf × Signature) → Sound (handler_run s h p)
handler_run_sound s h p = made_sound (value_judging (handler_scope s h p.1) p.1.result h.run) (λ x. typed_items.Handler (record { event = p.0; run = x; span = h.span })) (value_sound (handler_scope s h p.1) p.1.result h.run)

handler_run_some : (s : ScopeValue) (h : Handler) (p : HandlerOf × Signature) → Told (handler_run s h p)
handler_run_some s h p = made_some (value_judging (handler_scope s h p.1) p.1.result h.run) (λ x. typed_items.Handler (record { event = p.0; run = x; span = h.span })) (value_sound (handler_scope s h p.1) p.1.result h.run) (value_some (handler_scope s h p.1) p.1.result h.run)

pub handler_sound : (s : ScopeValue) (h : Handler) → Sound (handler_judging s h)
handler_sound s h = going_sound (handler_run s h) (on_ok (handled s h.name) (counted h.span (names_or_none h.parameters))) (handler_run_sound s h)

handler_some : (s : ScopeValue) (h : Handler) → Told (handler_judging s h)
handler_some s h = going_some (handler_run s h) (on_ok (handled s h.name) (counted h.span (names_or_none h.parameters))) (handler_run_some s h)

pub changed_run_sound : (s : ScopeValue) (run : Value) (p : MemberRef × Ty) → Sound (changed_run s run p)
changed_run_sound s run p = made_sound (value_judging s ty.Void run) (λ x. typed_items.Changed (record { property = p.0; run = x })) (value_sound s ty.Void run)

changed_run_some : (s : ScopeValue) (run : Value) (p : MemberRef × Ty) → Told (changed_run s run p)
changed_run_some s run p = made_some (value_judging s ty.Void run) (λ x. typed_items.Changed (record { property = p.0; run = x })) (value_sound s ty.Void run) (value_some s ty.Void run)

pub changed_sound : (s : ScopeValue) (c : Changed) → Sound (changed_judging s c)
changed_sound s c = going_sound (changed_run s c.run) (property_found c.name.span (own_member s c.name.name)) (changed_run_sound s c.run)

changed_some : (s : ScopeValue) (c : Changed) → Told (changed_judging s c)
changed_some s c = going_some (changed_run s c.run) (property_found c.name.span (own_member s c.name.name)) (changed_run_some s c.run)

-- states

change_to_sound : (s : ScopeValue) (c : Change) (p : MemberRef × Ty) → Sound (change_to s c p)
change_to_sound s c p = owned_sound (value_judging s p.1 c.value) (change_of p.0 c) (value_sound s p.1 c.value)

change_to_some : (s : ScopeValue) (c : Change) (p : MemberRef × Ty) → Told (change_to s c p)
change_to_some s c p = owned_some (value_judging s p.1 c.value) (change_of p.0 c) (value_sound s p.1 c.value) (value_some s p.1 c.value)

pub change_sound : (s : ScopeValue) (c : Change) → Sound (change_judging s c)
change_sound s c = going_sound (change_to s c) (property_led c.path (lead_of s c.path)) (change_to_sound s c)

change_some : (s : ScopeValue) (c : Change) → Told (change_judging s c)
change_some s c = going_some (change_to s c) (property_led c.path (lead_of s c.path)) (change_to_some s c)

pub when_sound : (s : ScopeValue) (e : Option Expr) → Sound (optional (expression_judging s ty.Bool) e)
when_sound s e = optional_sound (expression_judging s ty.Bool) (λ x. expression_sound s ty.Bool x) e

when_some : (s : ScopeValue) (e : Option Expr) → Told (optional (expression_judging s ty.Bool) e)
when_some s e = optional_some (expression_judging s ty.Bool) (λ x. expression_sound s ty.Bool x) (λ x. expression_some s ty.Bool x) e

pub changes_sound : (s : ScopeValue) (cs : List Change) → Sound (each (change_judging s) cs)
changes_sound s cs = each_sound (change_judging s) (change_sound s) cs

changes_some : (s : ScopeValue) (cs : List Change) → Told (each (change_judging s) cs)
changes_some s cs = each_some (change_judging s) (change_sound s) (change_some s) cs

pub state_parts_sound : (s : ScopeValue) (st : State) → Sound (both (optional (expression_judging s ty.Bool) st.when) (each (change_judging s) st.changes))
state_parts_sound s st = both_sound (optional (expression_judging s ty.Bool) st.when) (each (change_judging s) st.changes) (when_sound s st.when) (changes_sound s st.changes)

state_parts_some : (s : ScopeValue) (st : State) → Told (both (optional (expression_judging s ty.Bool) st.when) (each (change_judging s) st.changes))
state_parts_some s st = both_some (optional (expression_judging s ty.Bool) st.when) (each (change_judging s) st.changes) (when_sound s st.when) (changes_sound s st.changes) (when_some s st.when) (changes_some s st.changes)

pub state_sound : (s : ScopeValue) (st : State) → Sound (state_judging s st)
state_sound s st = made_sound (both (optional (expression_judging s ty.Bool) st.when) (each (change_judging s) st.changes)) (λ p. record { when = p.0; changes = p.1 }) (state_parts_sound s st)

state_some : (s : ScopeValue) (st : State) → Told (state_judging s st)
state_some s st = made_some (both (optional (expression_judging s ty.Bool) st.when) (each (change_judging s) st.changes)) (λ p. record { when = p.0; changes = p.1 }) (state_parts_sound s st) (state_parts_some s st)

pub all_states_sound : (s : ScopeValue) (sts : List State) → Sound (each (state_judging s) sts)
all_states_sound s sts = each_sound (state_judging s) (state_sound s) sts

pub states_sound : (s : ScopeValue) (list : States) → Sound (states_judging s list)
states_sound s list = made_sound (each (state_judging s) list.states) (λ xs. typed_items.States (record { states = xs; word = list.word })) (all_states_sound s list.states)

states_some : (s : ScopeValue) (list : States) → Told (states_judging s list)
states_some s list = made_some (each (state_judging s) list.states) (λ xs. typed_items.States (record { states = xs; word = list.word })) (all_states_sound s list.states) (each_some (state_judging s) (state_sound s) (state_some s) list.states)

-- items

something_sound : (x : Judging TypedItem) → Sound x → Sound (something x)
something_sound x s = made_sound x (λ y. Some y) s

something_some : (x : Judging TypedItem) → Sound x → Told x → Told (something x)
something_some x s t = made_some x (λ y. Some y) s t

nothing_sound : Sound nothing
nothing_sound = at_once_sound (Ok None)

nothing_some : Told nothing
nothing_some = at_once_some (Ok None)

link_sound : (r : Result TypedItem Fault) → Sound (something (at_once r))
link_sound r = something_sound (at_once r) (at_once_sound r)

link_some : (r : Result TypedItem Fault) → Told (something (at_once r))
link_some r = something_some (at_once r) (at_once_sound r) (at_once_some r)

property_sound : (s : ScopeValue) (p : Property) (v : PropValue) → Sound (property_judging s p v)
property_sound s p prop_values.None = nothing_sound
property_sound s p (prop_values.Value v) = something_sound (binding_judging s p.name v) (binding_sound s p.name v)
property_sound s p (prop_values.Link path) = link_sound (link s p.name path p.span)

property_some : (s : ScopeValue) (p : Property) (v : PropValue) → Told (property_judging s p v)
property_some s p prop_values.None = nothing_some
property_some s p (prop_values.Value v) = something_some (binding_judging s p.name v) (binding_sound s p.name v) (binding_some s p.name v)
property_some s p (prop_values.Link path) = link_some (link s p.name path p.span)

callback_sound : (s : ScopeValue) (c : Callback) (form : CallbackForm) → Sound (callback_judging s c form)
callback_sound s c (forms.Link path) = link_sound (link s c.name path c.span)
callback_sound s c (forms.Signature parameters result) = nothing_sound

callback_some : (s : ScopeValue) (c : Callback) (form : CallbackForm) → Told (callback_judging s c form)
callback_some s c (forms.Link path) = link_some (link s c.name path c.span)
callback_some s c (forms.Signature parameters result) = nothing_some

pub item_sound : (s : ScopeValue) (x : ItemLayer) → Sound (item_judging s x)
item_sound s (Item-F.Property p) = property_sound s p p.value
item_sound s (Item-F.Callback c) = callback_sound s c c.form
item_sound s (Item-F.Function f) = something_sound (function_judging s f) (function_sound s f)
item_sound s (Item-F.Binding b) = something_sound (binding_judging s b.name b.value) (binding_sound s b.name b.value)
item_sound s (Item-F.Link l) = link_sound (link s l.left l.right l.span)
item_sound s (Item-F.Handler h) = something_sound (handler_judging s h) (handler_sound s h)
item_sound s (Item-F.Changed c) = something_sound (changed_judging s c) (changed_sound s c)
item_sound s (Item-F.States list) = something_sound (states_judging s list) (states_sound s list)
item_sound s (Item-F.Element e) = nothing_sound
item_sound s (Item-F.If i) = nothing_sound
item_sound s (Item-F.For f) = nothing_sound
item_sound s (Item-F.Children span) = nothing_sound

pub item_some : (s : ScopeValue) (x : ItemLayer) → Told (item_judging s x)
item_some s (Item-F.Property p) = property_some s p p.value
item_some s (Item-F.Callback c) = callback_some s c c.form
item_some s (Item-F.Function f) = something_some (function_judging s f) (function_sound s f) (function_some s f)
item_some s (Item-F.Binding b) = something_some (binding_judging s b.name b.value) (binding_sound s b.name b.value) (binding_some s b.name b.value)
item_some s (Item-F.Link l) = link_some (link s l.left l.right l.span)
item_some s (Item-F.Handler h) = something_some (handler_judging s h) (handler_sound s h) (handler_some s h)
item_some s (Item-F.Changed c) = something_some (changed_judging s c) (changed_sound s c) (changed_some s c)
item_some s (Item-F.States list) = something_some (states_judging s list) (states_sound s list) (states_some s list)
item_some s (Item-F.Element e) = nothing_some
item_some s (Item-F.If i) = nothing_some
item_some s (Item-F.For f) = nothing_some
item_some s (Item-F.Children span) = nothing_some

-- models

abbrev by_itself : ScopeValue → Expr → Judging TypedFor
by_itself s e = owned (standing_judging s e) (array_rows s (expr_span e))

abbrev as_count : ScopeValue → Expr → Judging TypedFor
as_count s e = made (expression_judging s ty.Int e) (counted_rows (expr_span e))

by_itself_sound : (s : ScopeValue) (e : Expr) → Sound (by_itself s e)
by_itself_sound s e = owned_sound (standing_judging s e) (array_rows s (expr_span e)) (standing_sound s e)

as_count_sound : (s : ScopeValue) (e : Expr) → Sound (as_count s e)
as_count_sound s e = made_sound (expression_judging s ty.Int e) (counted_rows (expr_span e)) (expression_sound s ty.Int e)

pub model_sound : (s : ScopeValue) (e : Expr) → Sound (model_judging s e)
model_sound s e = as_sound (by_itself s e) (as_count s e) (by_itself_sound s e) (as_count_sound s e)

pub model_some : (s : ScopeValue) (e : Expr) → Told (model_judging s e)
model_some s e = as_some (by_itself s e) (as_count s e) (owned_some (standing_judging s e) (array_rows s (expr_span e)) (standing_sound s e) (standing_some s e))
    (made_some (expression_judging s ty.Int e) (counted_rows (expr_span e)) (expression_sound s ty.Int e) (expression_some s ty.Int e))
