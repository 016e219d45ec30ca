-- The verdict on links and on changes of states is one, and which rules its faults are of.
use Rattle.std.proofs.Common.{◌≡◌, ℕ, ◌⊎◌, inl, inr, Bool, true, false, List, [], ◌∷◌, ◌++◌, Option, None, Some, sym, ap, subst, ◌∙◌}
use Rattle.std.specs.Prelude.{Contains}
use Rattle.std.proofs.lemmas.List.Elements.{Contains-append_cases}
use Rattle.slint_base.specs.declared.faults.Fault.{Fault}
use Rattle.slint_base.specs.declared.rules.Rule.{Rule}
use Rattle.slint_base.specs.declared.rules.Rule.TheVariants.{AliasLoop, FileMissing, TwoStateLists}
use Rattle.fault_order.specs.Order.{FirstIfAny, first_of}
use Rattle.fault_order.proofs.First.{FirstIfAny-first_of, one_first}
use Rattle.expanded_tree.specs.Trees.{ExpandedValue}
use Rattle.alias_merge.specs.declared.changes.Change.{Change}
use Rattle.alias_merge.specs.declared.changes.StateList.{StateList}
use Rattle.alias_merge.specs.declared.homes.Home.{Home}
use Rattle.alias_merge.specs.ChangeLists.{changes, lists}
use Rattle.alias_merge.specs.Changes.{at_path, breaks_rule, change_faults, fault_if, faults_behind, label_of}
use Rattle.alias_merge.specs.ClassesValues.{ClassesValue}
use Rattle.alias_merge.specs.Homes.{homes_of}
use Rattle.alias_merge.specs.Links.{LinkFault, links}
use Rattle.alias_merge.specs.Merged.{AreGroups, Breaks, BreaksChanges, IsMerged}
use Rattle.alias_merge.specs.Numbers.{count}
use Rattle.alias_merge.specs.Rows.{member_rows}
use Rattle.alias_merge.proofs.CircleMarks.{none_in, only_one}
use Rattle.alias_merge.proofs.Labelling.{same_labels}

-- ---- one verdict

abbrev pub change_told : ExpandedValue → List ℕ → List (Option Home) → Option Fault
change_told e labels homes = first_of (change_faults labels homes (lists e) (changes e))

told_same : (e : ExpandedValue) (l m : List ℕ) (g h : List (Option Home)) → AreGroups e l g → AreGroups e m h → change_told e l g ≡ change_told e m h
told_same e l m g h p q =
    let labels : l ≡ m = same_labels (links e) (count e) l m p.labelled q.labelled in
    let homes : g ≡ h = p.housed ∙ (ap (λ (x : List ℕ). homes_of x (member_rows e)) labels ∙ sym q.housed) in
    ap (λ (x : List ℕ). change_told e x g) labels ∙ ap (λ (x : List (Option Home)). change_told e m x) homes

some_same : (f g : Fault) → Some f ≡ Some g → f ≡ g
some_same f g e = cc

none_some : (told : Option Fault) (f : Fault) → told ≡ None → told ≡ Some f → ⊥
none_some told f e h = cc

one_change_fault : (e : ExpandedValue) (f g : Fault) → BreaksChanges e f → BreaksChanges e g → f ≡ g
one_change_fault e f g p q = some_same f g (sym p.told ∙ (told_same e p.labels q.labels p.homes q.homes p.groups q.groups ∙ q.told))

pub one_merge_fault : (e : ExpandedValue) (f g : Fault) → Breaks e f → Breaks e g → f ≡ g
one_merge_fault e f g (inl a) (inl b) = one_first {P = LinkFault e} f g a b
one_merge_fault e f g (inl a) (inr b) = absurd (b.0 f a.has)
one_merge_fault e f g (inr a) (inl b) = absurd (a.0 g b.has)
one_merge_fault e f g (inr a) (inr b) = one_change_fault e f g a.1 b.1

unchanged : (e : ExpandedValue) (c : ClassesValue) (f : Fault) → IsMerged e c → BreaksChanges e f → ⊥
unchanged e c f m b = none_some (change_told e c.labels c.homes) f m.no_change (told_same e c.labels b.labels c.homes b.homes m.classes.groups b.groups ∙ b.told)

pub merged_or_broken : (e : ExpandedValue) (c : ClassesValue) (f : Fault) → IsMerged e c → Breaks e f → ⊥
merged_or_broken e c f m (inl a) = m.no_loop f a.has
merged_or_broken e c f m (inr b) = unchanged e c f m b.1

-- ---- which rules

if_rule : (b : Bool) (d : Change) (f : Fault) → Contains (fault_if b d) f → f.rule ≡ TwoStateLists
if_rule true d f c = sym (ap (λ (x : Fault). x.rule) (only_one (at_path d) f c))
if_rule false d f c = absurd (none_in f c)

behind_rule : (labels : List ℕ) (homes : List (Option Home)) (lists : List StateList) (before ds : List Change) (f : Fault) → Contains (faults_behind labels homes lists before ds) f → f.rule ≡ TwoStateLists
behind_rule labels homes lists before [] f c = absurd (none_in f c)
behind_rule labels homes lists before (d ∷ ds) f c =
    by (behind_rule labels homes lists (before ++ d ∷ []) ds f) (Contains-append_cases (fault_if broken d) (faults_behind labels homes lists (before ++ d ∷ []) ds) f c)
  where
    broken : Bool
    broken = breaks_rule labels homes lists before d (label_of labels d)

    by : (Contains (faults_behind labels homes lists (before ++ d ∷ []) ds) f → f.rule ≡ TwoStateLists)
        → Contains (fault_if broken d) f ⊎ Contains (faults_behind labels homes lists (before ++ d ∷ []) ds) f → f.rule ≡ TwoStateLists
    by later (inl h) = if_rule broken d f h
    by later (inr h) = later h

told_in : (fs : List Fault) (told : Option Fault) (f : Fault) → FirstIfAny (λ g. Contains fs g) told → told ≡ Some f → Contains fs f
told_in fs None f h e = absurd (cc)
told_in fs (Some g) f h e = subst (λ (x : Fault). Contains fs x) (some_same g f e) h.has

change_rule : (e : ExpandedValue) (f : Fault) → BreaksChanges e f → f.rule ≡ TwoStateLists
change_rule e f b =
    let faults = change_faults b.labels b.homes (lists e) (changes e) in
    behind_rule b.labels b.homes (lists e) [] (changes e) f (told_in faults (first_of faults) f (FirstIfAny-first_of faults) b.told)

pub merge_rule : (e : ExpandedValue) (f : Fault) → Breaks e f → (f.rule ≡ AliasLoop) ⊎ (f.rule ≡ TwoStateLists)
merge_rule e f (inl a) = inl (ap (λ (x : Fault). x.rule) a.has.is)
merge_rule e f (inr b) = inr (change_rule e f b.1)

alias_found : (r : Rule) → r ≡ AliasLoop → r ≡ FileMissing → ⊥
alias_found r a b = cc

states_found : (r : Rule) → r ≡ TwoStateLists → r ≡ FileMissing → ⊥
states_found r a b = cc

either_found : (r : Rule) → (r ≡ AliasLoop) ⊎ (r ≡ TwoStateLists) → r ≡ FileMissing → ⊥
either_found r (inl a) = alias_found r a
either_found r (inr b) = states_found r b

pub no_file_missed : (e : ExpandedValue) (f : Fault) → Breaks e f → f.rule ≡ FileMissing → ⊥
no_file_missed e f b = either_found f.rule (merge_rule e f b)
