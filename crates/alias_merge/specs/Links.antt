-- The links of an expanded tree in instance order, by the numbers of their members.
use Rattle.std.specs.Prelude.{ℕ, List, [], ◌∷◌, map, Option, Some, None}
use Rattle.std.specs.List.{flat_map}
use Rattle.slint_base.specs.declared.faults.Fault.{Fault}
use Rattle.slint_base.specs.declared.faults.Span.{Span}
use Rattle.slint_base.specs.declared.rules.Rule.TheVariants as rules
use Rattle.typed_tree.specs.declared.trees.TypedItem.{TypedItem}
use Rattle.typed_tree.specs.declared.trees.TypedItem.TheVariants as items
use Rattle.finite_graphs.specs.declared.edge.Edge.{Edge}
use Rattle.expanded_tree.specs.declared.holders.Holder.{Holder}
use Rattle.expanded_tree.specs.Items.{holders_in_order, items_of}
use Rattle.expanded_tree.specs.Members.{member_at}
use Rattle.expanded_tree.specs.Trees.{ExpandedValue}
use Rattle.alias_merge.specs.declared.circle_faults.Spanned.{Spanned}
use Rattle.alias_merge.specs.declared.numbers.MemberNumbers.{MemberNumbers}
use Rattle.alias_merge.specs.Candidates.{holding_of}
use Rattle.alias_merge.specs.CircleFaults.{CircleFault, edge_in}
use Rattle.alias_merge.specs.Numbers.{number_in, numbers_of}

-- a link from its left side to its right side, at the stretch of the right side, where both have numbers
abbrev pub link_between : Span → Option ℕ → Option ℕ → List Spanned
link_between span None right = []
link_between span (Some a) None = []
link_between span (Some a) (Some b) = record { from = a; to = b; span = span } ∷ []

abbrev pub link_of : ExpandedValue → MemberNumbers → ℕ → TypedItem → List Spanned
link_of e numbers body (items.Link link) = link_between link.span (number_in numbers (member_at e body link.left)) (number_in numbers (member_at e body link.right))
link_of e numbers body _ = []

abbrev pub links_at : ExpandedValue → MemberNumbers → Holder → List Spanned
links_at e numbers holder = flat_map (link_of e numbers (holding_of e holder).body) (items_of e holder)

-- the links of all holders in instance order
abbrev pub links : ExpandedValue → List Spanned
links e = flat_map (links_at e (numbers_of e)) (holders_in_order e)

abbrev pub link_edges : ExpandedValue → List Edge
link_edges e = map edge_in (links e)

-- a link from whose right side its left side is reached over links
abbrev pub LinkFault : ExpandedValue → Fault → Type 0
LinkFault e f = CircleFault rules.AliasLoop (links e) f
