-- What could be chosen for classes: bindings and handlers as they are written, and the defaults that the language gives, in instance order.
use Rattle.std.specs.Prelude.{ℕ, suc, List, [], ◌∷◌, ◌++◌, Bool, true, false, map, filter, slice_get, Option, Some, None}
use Rattle.std.specs.List.{flat_map}
use Rattle.std.specs.Option.{option_to_list}
use Rattle.slint_base.specs.declared.faults.Span.{Span}
use Rattle.element_tables.specs.declared.elements.ElementKind.{ElementKind}
use Rattle.element_tables.specs.declared.members.MemberKind.{MemberKind}
use Rattle.element_tables.specs.declared.members.MemberKind.TheVariants as member_kind
use Rattle.element_tables.specs.declared.members.PropertyDefault.TheVariants as default
use Rattle.element_tables.specs.Members.{members}
use Rattle.element_tables.specs.Rows.{in_byte_order}
use Rattle.typed_tree.specs.declared.outlines.ElementOutline.{ElementOutline}
use Rattle.typed_tree.specs.declared.trees.HandlerOf.{HandlerOf}
use Rattle.typed_tree.specs.declared.trees.HandlerOf.TheVariants as handler_of
use Rattle.typed_tree.specs.declared.trees.TypedComponent.{TypedComponent}
use Rattle.typed_tree.specs.declared.trees.TypedItem.{TypedItem}
use Rattle.typed_tree.specs.declared.trees.TypedItem.TheVariants as items
use Rattle.expanded_tree.specs.declared.bodies.Body.{Body}
use Rattle.expanded_tree.specs.declared.elements.ExpandedElement.{ExpandedElement}
use Rattle.expanded_tree.specs.declared.holders.Holder.{Holder}
use Rattle.expanded_tree.specs.declared.holders.Holder.TheVariants as holders
use Rattle.expanded_tree.specs.declared.members.ExpandedMember.TheVariants as expanded_member
use Rattle.expanded_tree.specs.Components.{elements_at}
use Rattle.expanded_tree.specs.Items.{holders_in_order, items_of}
use Rattle.expanded_tree.specs.Members.{element_at, member_at}
use Rattle.expanded_tree.specs.Trees.{ExpandedValue}
use Rattle.alias_merge.specs.declared.candidate.Candidate.{Candidate}
use Rattle.alias_merge.specs.declared.holdings.Holding.{Holding}
use Rattle.alias_merge.specs.declared.numbers.MemberNumbers.{MemberNumbers}
use Rattle.alias_merge.specs.Numbers.{number_in, numbers_of}

-- what comes of each thing of a list and its number; they are counted from n
abbrev pub numbered_all : {A B : Type 0} → (ℕ → A → List B) → ℕ → List A → List B
numbered_all f n [] = []
numbered_all f n (x ∷ xs) = f n x ++ numbered_all f (suc n) xs

-- ---- where items are written

-- how many bodies are around a body
abbrev pub depth_in : Option Body → ℕ
depth_in None = 0
depth_in (Some body) = body.depth

-- how many repeaters are around an element
abbrev pub repeaters_in : Option ExpandedElement → ℕ
repeaters_in None = 0
repeaters_in (Some element) = element.repeaters

-- a holder, the body from which its items name members, how many bodies are around it, and how many repeaters around its element
abbrev pub holding_of : ExpandedValue → Holder → Holding
holding_of e (holders.Global g) = record { holder = holders.Global g; body = 0; depth = 0; repeaters = 0 }
holding_of e (holders.Element spot) = record {
  holder = holders.Element spot;
  body = spot.body;
  depth = depth_in (slice_get e.bodies spot.body);
  repeaters = repeaters_in (slice_get e.elements (element_at e spot.body spot.element));
}

-- a candidate for a member that has a number
abbrev pub candidate_at : Holding → ℕ → Span → Option ℕ → Option Candidate
candidate_at h i span None = None
candidate_at h i span (Some m) = Some (record { member = m; holder = h.holder; item = i; depth = h.depth; span = span; repeaters = h.repeaters })

-- ---- bindings

abbrev pub binding_of : ExpandedValue → MemberNumbers → Holding → ℕ → TypedItem → Option Candidate
binding_of e numbers h i (items.Binding b) = candidate_at h i b.span (number_in numbers (member_at e h.body b.property))
binding_of e numbers h i _ = None

abbrev pub bindings_in : ExpandedValue → MemberNumbers → Holding → List TypedItem → List Candidate
bindings_in e numbers h xs = numbered_all (λ i x. option_to_list (binding_of e numbers h i x)) 0 xs

abbrev pub bindings_at : ExpandedValue → MemberNumbers → Holder → List Candidate
bindings_at e numbers holder = bindings_in e numbers (holding_of e holder) (items_of e holder)

abbrev pub bindings : ExpandedValue → List Candidate
bindings e = flat_map (bindings_at e (numbers_of e)) (holders_in_order e)

-- ---- handlers of callbacks

abbrev pub event_of : ExpandedValue → MemberNumbers → Holding → ℕ → Span → HandlerOf → Option Candidate
event_of e numbers h i span handler_of.Init = None
event_of e numbers h i span (handler_of.Callback m) = candidate_at h i span (number_in numbers (member_at e h.body m))

abbrev pub handler_at : ExpandedValue → MemberNumbers → Holding → ℕ → TypedItem → Option Candidate
handler_at e numbers h i (items.Handler handler) = event_of e numbers h i handler.span handler.event
handler_at e numbers h i _ = None

abbrev pub handlers_in : ExpandedValue → MemberNumbers → Holding → List TypedItem → List Candidate
handlers_in e numbers h xs = numbered_all (λ i x. option_to_list (handler_at e numbers h i x)) 0 xs

abbrev pub handlers_at : ExpandedValue → MemberNumbers → Holder → List Candidate
handlers_at e numbers holder = handlers_in e numbers (holding_of e holder) (items_of e holder)

abbrev pub handlers : ExpandedValue → List Candidate
handlers e = flat_map (handlers_at e (numbers_of e)) (holders_in_order e)

-- ---- defaults

abbrev pub gives_default : MemberKind → Bool
gives_default (member_kind.Property ty mark default.OfType) = false
gives_default (member_kind.Property ty mark _) = true
gives_default _ = false

-- the numbers of an element's properties to which the language gives a default of their own, in byte order of their names
abbrev pub defaulted : ElementKind → List ℕ
defaulted kind = map (λ row. row.1.number) (filter (λ row. gives_default row.1.kind) (in_byte_order (members kind)))

-- the type name of an element where it is used
abbrev pub type_span_in : Option ElementOutline → Span
type_span_in None = record { file = 0; start = 0; end = 0 }
type_span_in (Some element) = element.ty_span

abbrev pub type_span_of : List TypedComponent → ℕ → Option Body → Span
type_span_of comps element None = type_span_in None
type_span_of comps element (Some body) = type_span_in (slice_get (elements_at comps body.comp) element)

-- a default counts as written at the type name of its element, in the body in which the element is used
abbrev pub default_holding : ExpandedValue → ExpandedElement → Holding
default_holding e x = record { holder = holders.Element x.spot; body = x.spot.body; depth = depth_in (slice_get e.bodies x.spot.body); repeaters = x.repeaters }

abbrev pub default_of : ExpandedValue → MemberNumbers → ℕ → ExpandedElement → ℕ → Option Candidate
default_of e numbers n x i =
    candidate_at (default_holding e x) i (type_span_of e.tree.comps x.spot.element (slice_get e.bodies x.spot.body)) (number_in numbers (expanded_member.BuiltIn n i))

abbrev pub defaults_of : ExpandedValue → MemberNumbers → ℕ → ExpandedElement → List Candidate
defaults_of e numbers n x = flat_map (λ i. option_to_list (default_of e numbers n x i)) (defaulted x.kind)

abbrev pub defaults : ExpandedValue → List Candidate
defaults e = numbered_all (defaults_of e (numbers_of e)) 0 e.elements
