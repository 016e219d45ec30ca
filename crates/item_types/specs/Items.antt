-- What the items of a body come to.
use Rattle.std.specs.Prelude.{ℕ, Bool, true, false, ◌&&◌, ◌||◌, not, if◌then◌else◌, List, [], ◌∷◌, Option, Some, None, Result, Ok, Err}
use Rattle.slint_base.specs.declared.endings.Memory.{Memory}
use Rattle.slint_base.specs.declared.faults.Fault.{Fault}
use Rattle.slint_base.specs.declared.faults.Span.{Span}
use Rattle.slint_base.specs.declared.rules.Rule.TheVariants as rules
use Rattle.syntax_tree.specs.declared.words.Ident.{Ident}
use Rattle.syntax_tree.specs.declared.words.Path.{Path}
use Rattle.syntax_tree.specs.declared.statements.Value.{Value}
use Rattle.syntax_tree.specs.declared.items.CallbackForm.{CallbackForm}
use Rattle.syntax_tree.specs.declared.items.CallbackForm.TheVariants as forms
use Rattle.syntax_tree.specs.declared.items.Callback.{Callback}
use Rattle.syntax_tree.specs.declared.items.Change.{Change}
use Rattle.syntax_tree.specs.declared.items.Changed.{Changed}
use Rattle.syntax_tree.specs.declared.items.Element.{Element}
use Rattle.syntax_tree.specs.declared.items.For.{For}
use Rattle.syntax_tree.specs.declared.items.Function.{Function}
use Rattle.syntax_tree.specs.declared.items.Handler.{Handler}
use Rattle.syntax_tree.specs.declared.items.IfElement.{IfElement}
use Rattle.syntax_tree.specs.declared.items.Item.{Item}
use Rattle.syntax_tree.specs.declared.items.Item.TheOpen.{Item-F}
use Rattle.syntax_tree.specs.declared.items.PropValue.{PropValue}
use Rattle.syntax_tree.specs.declared.items.PropValue.TheVariants as prop_values
use Rattle.syntax_tree.specs.declared.items.Property.{Property}
use Rattle.syntax_tree.specs.declared.items.State.{State}
use Rattle.syntax_tree.specs.declared.items.States.{States}
use Rattle.value_types.specs.declared.types.Ty.{Ty}
use Rattle.value_types.specs.declared.types.Ty.TheVariants as ty
use Rattle.type_rules.specs.Conversions.{same_type}
use Rattle.typed_tree.specs.declared.expressions.TypedExpr.{TypedExpr}
use Rattle.typed_tree.specs.declared.members.Found.{Found}
use Rattle.typed_tree.specs.declared.members.MemberKind.{MemberKind}
use Rattle.typed_tree.specs.declared.members.MemberKind.TheVariants as kinds
use Rattle.typed_tree.specs.declared.members.MemberRef.{MemberRef}
use Rattle.typed_tree.specs.declared.members.Signature.{Signature}
use Rattle.typed_tree.specs.declared.statements.TypedBlock.{TypedBlock}
use Rattle.typed_tree.specs.declared.statements.TypedValue.{TypedValue}
use Rattle.typed_tree.specs.declared.trees.HandlerOf.{HandlerOf}
use Rattle.typed_tree.specs.declared.trees.TypedChange.{TypedChange}
use Rattle.typed_tree.specs.declared.trees.TypedItem.{TypedItem}
use Rattle.typed_tree.specs.declared.trees.TypedItem.TheVariants as typed_items
use Rattle.typed_tree.specs.declared.trees.TypedState.{TypedState}
use Rattle.typed_tree.specs.Scopes.{ScopeValue}
use Rattle.name_lookup.specs.Leads.{own_member, lead_of}
use Rattle.fault_order.specs.Order.{earlier_fault}
use Rattle.expr_rules.specs.Denotations.{broken, on_ok}
use Rattle.item_types.specs.Judging.{Judging, at_once, going_on, owned, made, both, each, optional, both_told}
use Rattle.item_types.specs.Members.{path_span, property_found, property_led, function_found, handled, counted, side_found, side_led, is_grid_number, locals, names_or_none, field_names, with_parameters}
use Rattle.item_types.specs.Values.{expression_judging, block_judging, value_judging, value_span, bound_value}

-- a binding, or the value of a declared property
abbrev pub binding_of : MemberRef → Span → TypedValue × Bool → TypedItem
binding_of member span x = typed_items.Binding (record { property = member; value = x.0; is_share = x.1; span = span })

abbrev pub bound : ScopeValue → Value → MemberRef × Ty → Judging TypedItem
bound s v p = made (bound_value s p.0 p.1 v) (binding_of p.0 (value_span v))

abbrev pub binding_judging : ScopeValue → Ident → Value → Judging TypedItem
binding_judging s name v = going_on (property_found name.span (own_member s name.name)) (bound s v)

-- a link: of properties of one type, or of callbacks that take and give the same and are `pure` alike. None of a grid cell's numbers is linked
abbrev pub same_types : List Ty → List Ty → Bool
same_types [] [] = true
same_types (t ∷ ts) (u ∷ us) = same_type t u && same_types ts us
same_types _ _ = false

abbrev pub same_signature : Signature → Signature → Bool
same_signature s r = same_types s.parameters r.parameters && same_type s.result r.result

abbrev pub both_or_neither : Bool → Bool → Bool
both_or_neither true other = other
both_or_neither false other = not other

abbrev pub same_callback : Bool → Signature → Bool → Signature → Bool
same_callback pure s other r = both_or_neither pure other && same_signature s r

abbrev pub same_kind : MemberKind → MemberKind → Bool
same_kind (kinds.Property mark t) (kinds.Property other u) = same_type t u
same_kind (kinds.Callback pure s) (kinds.Callback other r) = same_callback pure s other r
same_kind _ _ = false

abbrev pub linked : Span → Span → Found × Found → Result TypedItem Fault
linked span right sides = if same_kind sides.0.kind sides.1.kind
    then (if is_grid_number sides.0.member || is_grid_number sides.1.member
    then broken rules.NotConstant span
    else Ok (typed_items.Link (record { left = sides.0.member; right = sides.1.member; span = right })))
    else broken rules.AliasTypes span

abbrev pub link : ScopeValue → Ident → Path → Span → Result TypedItem Fault
link s left right span = on_ok (both_told (side_found left.span (own_member s left.name)) (side_led right (lead_of s right))) (linked span (path_span right))

-- a function's body
abbrev pub function_body : ScopeValue → Function → ℕ × Signature → Judging TypedItem
function_body s f found = made (block_judging (with_parameters s (locals (field_names f.parameters) found.1.parameters)) found.1.result f.body)
    (λ b. typed_items.Function (record { number = found.0; body = b }))

abbrev pub function_judging : ScopeValue → Function → Judging TypedItem
function_judging s f = going_on (function_found f.name.span (own_member s f.name.name)) (function_body s f)

-- a handler, whose body isn't looked at where it has too many parameters
abbrev pub handler_run : ScopeValue → Handler → HandlerOf × Signature → Judging TypedItem
handler_run s h found = made (value_judging (with_parameters s (locals (names_or_none h.parameters) found.1.parameters)) found.1.result h.run)
    (λ x. typed_items.Handler (record { event = found.0; run = x; span = h.span }))

abbrev pub handler_judging : ScopeValue → Handler → Judging TypedItem
handler_judging s h = going_on (on_ok (handled s h.name) (counted h.span (names_or_none h.parameters))) (handler_run s h)

-- what runs when a property has changed
abbrev pub changed_run : ScopeValue → Value → MemberRef × Ty → Judging TypedItem
changed_run s run p = made (value_judging s ty.Void run) (λ x. typed_items.Changed (record { property = p.0; run = x }))

abbrev pub changed_judging : ScopeValue → Changed → Judging TypedItem
changed_judging s c = going_on (property_found c.name.span (own_member s c.name.name)) (changed_run s c.run)

-- what a state changes: not a grid cell's numbers
abbrev pub change_of : MemberRef → Change → TypedValue → Result TypedChange Fault
change_of member c x = if is_grid_number member then broken rules.NotConstant (value_span c.value)
    else Ok (record { property = member; path = path_span c.path; value = x; span = value_span c.value })

abbrev pub change_to : ScopeValue → Change → MemberRef × Ty → Judging TypedChange
change_to s c p = owned (value_judging s p.1 c.value) (change_of p.0 c)

abbrev pub change_judging : ScopeValue → Change → Judging TypedChange
change_judging s c = going_on (property_led c.path (lead_of s c.path)) (change_to s c)

-- states: conditions and changes
abbrev pub state_judging : ScopeValue → State → Judging TypedState
state_judging s st = made (both (optional (expression_judging s ty.Bool) st.when) (each (change_judging s) st.changes)) (λ p. record { when = p.0; changes = p.1 })

abbrev pub states_judging : ScopeValue → States → Judging TypedItem
states_judging s list = made (each (state_judging s) list.states) (λ xs. typed_items.States (record { states = xs; word = list.word }))

-- a state, of what is told of its condition and of its changes
abbrev pub state_told : Result (Option TypedExpr) Fault → Result (List TypedChange) Fault → Result TypedState Fault
state_told (Ok when) (Ok changes) = Ok (record { when = when; changes = changes })
state_told (Ok when) (Err g) = Err g
state_told (Err f) (Ok changes) = Err f
state_told (Err f) (Err g) = Err (earlier_fault f g)

-- items; elements, and declarations that neither bind nor link, come to nothing here
abbrev pub nothing : Judging (Option TypedItem)
nothing = at_once (Ok None)

abbrev pub something : Judging TypedItem → Judging (Option TypedItem)
something item = made item (λ x. Some x)

abbrev pub some_told : Result TypedItem Fault → Result (Option TypedItem) Fault
some_told (Ok x) = Ok (Some x)
some_told (Err f) = Err f

abbrev pub some_made : Result (Result TypedItem Fault) Memory → Result (Result (Option TypedItem) Fault) Memory
some_made (Ok v) = Ok (some_told v)
some_made (Err m) = Err m

abbrev pub property_judging : ScopeValue → Property → PropValue → Judging (Option TypedItem)
property_judging s p prop_values.None = nothing
property_judging s p (prop_values.Value v) = something (binding_judging s p.name v)
property_judging s p (prop_values.Link path) = something (at_once (link s p.name path p.span))

abbrev pub callback_judging : ScopeValue → Callback → CallbackForm → Judging (Option TypedItem)
callback_judging s c (forms.Link path) = something (at_once (link s c.name path c.span))
callback_judging s c (forms.Signature parameters result) = nothing

abbrev pub ItemLayer : Type 0
ItemLayer = Item-F Item Element For IfElement

abbrev pub item_judging : ScopeValue → ItemLayer → Judging (Option TypedItem)
item_judging s (Item-F.Property p) = property_judging s p p.value
item_judging s (Item-F.Callback c) = callback_judging s c c.form
item_judging s (Item-F.Function f) = something (function_judging s f)
item_judging s (Item-F.Binding b) = something (binding_judging s b.name b.value)
item_judging s (Item-F.Link l) = something (at_once (link s l.left l.right l.span))
item_judging s (Item-F.Handler h) = something (handler_judging s h)
item_judging s (Item-F.Changed c) = something (changed_judging s c)
item_judging s (Item-F.States list) = something (states_judging s list)
item_judging s (Item-F.Element e) = nothing
item_judging s (Item-F.If i) = nothing
item_judging s (Item-F.For f) = nothing
item_judging s (Item-F.Children span) = nothing
