-- The classes of linked members of an expanded tree, with what is chosen for each, and the rules that links and state lists keep.
use Rattle.std.specs.Prelude.{◌≡◌, ℕ, List, ◌⊎◌, Option, Some, None, Result, Ok, Err}
use Rattle.slint_base.specs.declared.endings.End.{End}
use Rattle.slint_base.specs.declared.endings.End.TheVariants as ends
use Rattle.slint_base.specs.declared.faults.Fault.{Fault}
use Rattle.fault_order.specs.Order.{IsFirst, NoFault, first_of}
use Rattle.expanded_tree.specs.Trees.{ExpandedValue}
use Rattle.alias_merge.specs.declared.homes.Home.{Home}
use Rattle.alias_merge.specs.Candidates.{bindings, defaults, handlers}
use Rattle.alias_merge.specs.ChangeLists.{changes, lists}
use Rattle.alias_merge.specs.Changes.{change_faults, changed_by}
use Rattle.alias_merge.specs.Choosing.{AreChoices}
use Rattle.alias_merge.specs.ClassesValues.{ClassesValue}
use Rattle.alias_merge.specs.Homes.{homes_of}
use Rattle.alias_merge.specs.Labels.{AreLabels}
use Rattle.alias_merge.specs.Links.{LinkFault, link_edges, links}
use Rattle.alias_merge.specs.Numbers.{count}
use Rattle.alias_merge.specs.Rows.{member_rows}

-- labels and homes of the classes
pub record AreGroups (e : ExpandedValue) (labels : List ℕ) (homes : List (Option Home)) : Type 0 where
  pub labelled : AreLabels (links e) (count e) labels
  pub housed : homes ≡ homes_of labels (member_rows e)

-- the classes, and what is chosen for each: a binding, a default and a handler; and the list of states that changes it
pub record AreClasses (e : ExpandedValue) (c : ClassesValue) : Type 0 where
  pub groups : AreGroups e c.labels c.homes
  pub bound : AreChoices (link_edges e) c.labels c.homes (bindings e) c.bindings
  pub given : AreChoices (link_edges e) c.labels c.homes (defaults e) c.defaults
  pub handled : AreChoices (link_edges e) c.labels c.homes (handlers e) c.handlers
  pub listed : c.changed ≡ changed_by c.labels (changes e)

-- the first fault of changes of states, where links have none
pub record BreaksChanges (e : ExpandedValue) (f : Fault) : Type 0 where
  pub labels : List ℕ
  pub homes : List (Option Home)
  pub groups : AreGroups e labels homes
  pub told : first_of (change_faults labels homes (lists e) (changes e)) ≡ Some f

-- the classes of a tree that keeps the rules
pub record IsMerged (e : ExpandedValue) (c : ClassesValue) : Type 0 where
  pub no_loop : NoFault (LinkFault e)
  pub no_change : first_of (change_faults c.labels c.homes (lists e) (changes e)) ≡ None
  pub classes : AreClasses e c

-- what merging comes to: classes, or the first fault of links, or without one the first fault of changes
abbrev pub Breaks : ExpandedValue → Fault → Type 0
Breaks e f = IsFirst (LinkFault e) f ⊎ (NoFault (LinkFault e) × BreaksChanges e f)

abbrev pub Merges : ExpandedValue → Result ClassesValue (End Fault) → Type 0
Merges e (Ok c) = IsMerged e c
Merges e (Err (ends.Fault f)) = Breaks e f
Merges e (Err ends.Memory) = Unit {0}
