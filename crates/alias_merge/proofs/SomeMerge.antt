-- Each expanded tree has classes, or a first fault.
use Rattle.std.proofs.Common.{◌≡◌, ℕ, ◌⊎◌, inl, inr, List, Option, None, Some, length, refl, sym, subst}
use Rattle.slint_base.specs.declared.faults.Fault.{Fault}
use Rattle.slint_base.specs.declared.rules.Rule.TheVariants as rules
use Rattle.fault_order.specs.Order.{IsFirst, NoFault}
use Rattle.finite_graphs.specs.declared.edge.Edge.{Edge}
use Rattle.expanded_tree.specs.Components.{each_below}
use Rattle.expanded_tree.specs.Trees.{ExpandedValue}
use Rattle.alias_merge.specs.declared.candidate.Candidate.{Candidate}
use Rattle.alias_merge.specs.declared.homes.Home.{Home}
use Rattle.alias_merge.specs.Candidates.{bindings, defaults, handlers}
use Rattle.alias_merge.specs.ChangeLists.{changes}
use Rattle.alias_merge.specs.Changes.{changed_by}
use Rattle.alias_merge.specs.Choosing.{AreChoices, HasNoCircle, IsChoice, of_class}
use Rattle.alias_merge.specs.ClassesValues.{ClassesValue}
use Rattle.alias_merge.specs.Homes.{homes_of}
use Rattle.alias_merge.specs.Labels.{joined}
use Rattle.alias_merge.specs.Links.{LinkFault, link_edges, links}
use Rattle.alias_merge.specs.Merged.{AreClasses, AreGroups, Breaks, IsMerged}
use Rattle.alias_merge.specs.Numbers.{count}
use Rattle.alias_merge.specs.Rows.{member_rows}
use Rattle.alias_merge.proofs.CircleVerdict.{some_circle_verdict}
use Rattle.alias_merge.proofs.MergeFaults.{change_told}
use Rattle.alias_merge.proofs.Merging.{no_circle}
use Rattle.alias_merge.proofs.OneChoice.{some_choice}
use Rattle.alias_merge.proofs.SomeLabels.{each_at, each_sized, label_by, some_labels}

-- ---- what is chosen for each class

module _ (edges : List Edge) (acyclic : HasNoCircle edges) (labels : List ℕ) (homes : List (Option Home)) (cs : List Candidate) where
  abbrev choice_at : ℕ → Option Candidate
  choice_at l = (some_choice edges acyclic (of_class labels homes l cs)).0

  abbrev pub choices : List (Option Candidate)
  choices = each_below choice_at (length labels)

  pub are_choices : AreChoices edges labels homes cs choices
  are_choices = record {
    sized = each_sized choice_at (length labels);
    each = λ l c h. subst (λ (o : Option Candidate). IsChoice edges (of_class labels homes l cs) o) (sym (each_at choice_at (length labels) h)) (some_choice edges acyclic (of_class labels homes l cs)).1;
  }

-- ---- the classes

module _ (e : ExpandedValue) where
  abbrev labels : List ℕ
  labels = each_below (label_by (joined (links e))) (count e)

  abbrev homes : List (Option Home)
  homes = homes_of labels (member_rows e)

  are_groups : AreGroups e labels homes
  are_groups = record { labelled = some_labels (links e) (count e); housed = refl }

  module _ (none : NoFault (LinkFault e)) where
    abbrev chosen : List Candidate → List (Option Candidate)
    chosen cs = choices (link_edges e) (no_circle e none) labels homes cs

    are_chosen : (cs : List Candidate) → AreChoices (link_edges e) labels homes cs (chosen cs)
    are_chosen cs = are_choices (link_edges e) (no_circle e none) labels homes cs

    abbrev classes : ClassesValue
    classes = record {
      labels = labels;
      homes = homes;
      bindings = chosen (bindings e);
      defaults = chosen (defaults e);
      handlers = chosen (handlers e);
      changed = changed_by labels (changes e);
    }

    are_classes : AreClasses e classes
    are_classes = record { groups = are_groups; bound = are_chosen (bindings e); given = are_chosen (defaults e); handled = are_chosen (handlers e); listed = refl }

    by_changes : (told : Option Fault) → change_told e labels homes ≡ told → ((c : ClassesValue) × IsMerged e c) ⊎ ((f : Fault) × Breaks e f)
    by_changes None is = inl (classes, record { no_loop = none; no_change = is; classes = are_classes })
    by_changes (Some f) is = inr (f, inr (none, record { labels = labels; homes = homes; groups = are_groups; told = is }))

  by_links : ((f : Fault) × IsFirst (LinkFault e) f) ⊎ NoFault (LinkFault e) → ((c : ClassesValue) × IsMerged e c) ⊎ ((f : Fault) × Breaks e f)
  by_links (inl h) = inr (h.0, inl h.1)
  by_links (inr none) = by_changes none (change_told e labels homes) refl

  pub some_merge : ((c : ClassesValue) × IsMerged e c) ⊎ ((f : Fault) × Breaks e f)
  some_merge = by_links (some_circle_verdict rules.AliasLoop (links e))
