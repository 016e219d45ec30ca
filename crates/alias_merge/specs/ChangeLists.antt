-- The lists of states of an expanded tree in instance order, and what they change, in the order of the text.
use Rattle.std.specs.Prelude.{ℕ, List, [], slice_get, Option, Some, None}
use Rattle.std.specs.List.{flat_map}
use Rattle.std.specs.Option.{option_to_list}
use Rattle.typed_tree.specs.declared.trees.TypedChange.{TypedChange}
use Rattle.typed_tree.specs.declared.trees.TypedItem.{TypedItem}
use Rattle.typed_tree.specs.declared.trees.TypedItem.TheVariants as items
use Rattle.typed_tree.specs.declared.trees.TypedState.{TypedState}
use Rattle.expanded_tree.specs.declared.holders.Holder.{Holder}
use Rattle.expanded_tree.specs.Items.{holders_in_order, items_of}
use Rattle.expanded_tree.specs.Members.{member_at}
use Rattle.expanded_tree.specs.Trees.{ExpandedValue}
use Rattle.alias_merge.specs.declared.changes.Change.{Change}
use Rattle.alias_merge.specs.declared.changes.StateList.{StateList}
use Rattle.alias_merge.specs.declared.holdings.Holding.{Holding}
use Rattle.alias_merge.specs.declared.numbers.MemberNumbers.{MemberNumbers}
use Rattle.alias_merge.specs.Candidates.{holding_of, numbered_all}
use Rattle.alias_merge.specs.Numbers.{number_in, numbers_of}

-- ---- lists of states

abbrev pub list_of : Holding → ℕ → TypedItem → Option StateList
list_of h i (items.States states) = Some (record { holder = h.holder; item = i; word = states.word; repeaters = h.repeaters })
list_of h i _ = None

abbrev pub lists_in : Holding → List TypedItem → List StateList
lists_in h xs = numbered_all (λ i x. option_to_list (list_of h i x)) 0 xs

abbrev pub lists_at : ExpandedValue → Holder → List StateList
lists_at e holder = lists_in (holding_of e holder) (items_of e holder)

abbrev pub lists : ExpandedValue → List StateList
lists e = flat_map (lists_at e) (holders_in_order e)

-- ---- changes

abbrev pub states_in : Option TypedItem → List TypedState
states_in None = []
states_in (Some (items.States states)) = states.states
states_in (Some _) = []

abbrev pub states_of : ExpandedValue → StateList → List TypedState
states_of e list = states_in (slice_get (items_of e list.holder) list.item)

abbrev pub change_at : ℕ → ℕ → ℕ → TypedChange → Option ℕ → Option Change
change_at l s i c None = None
change_at l s i c (Some m) = Some (record { list = l; state = s; change = i; member = m; path = c.path })

abbrev pub change_of : ExpandedValue → MemberNumbers → ℕ → ℕ → ℕ → ℕ → TypedChange → Option Change
change_of e numbers b l s i c = change_at l s i c (number_in numbers (member_at e b c.property))

abbrev pub changes_in_state : ExpandedValue → MemberNumbers → ℕ → ℕ → ℕ → TypedState → List Change
changes_in_state e numbers b l s state = numbered_all (λ i c. option_to_list (change_of e numbers b l s i c)) 0 state.changes

abbrev pub changes_in_states : ExpandedValue → MemberNumbers → ℕ → ℕ → List TypedState → List Change
changes_in_states e numbers b l states = numbered_all (λ s state. changes_in_state e numbers b l s state) 0 states

abbrev pub changes_in_list : ExpandedValue → MemberNumbers → ℕ → StateList → List Change
changes_in_list e numbers l list = changes_in_states e numbers (holding_of e list.holder).body l (states_of e list)

abbrev pub changes_in : ExpandedValue → MemberNumbers → List StateList → List Change
changes_in e numbers all = numbered_all (changes_in_list e numbers) 0 all

abbrev pub changes : ExpandedValue → List Change
changes e = changes_in e (numbers_of e) (lists e)
