-- What states change, and the rule that a class of linked members is changed by one list and once in a state.
use Rattle.std.specs.Prelude.{◌≡◌, ℕ, Bool, false, ◌==◌, ◌<◌, ◌≤◌, ◌⊎◌, ◌||◌, ◌&&◌, if◌then◌else◌, List, [], ◌∷◌, ◌++◌, length, nat_lt, slice_get, filter, Option, Some, None}
use Rattle.std.specs.List.{list_any}
use Rattle.slint_base.specs.declared.faults.Fault.{Fault}
use Rattle.slint_base.specs.declared.rules.Rule.TheVariants as rules
use Rattle.expanded_tree.specs.Components.{each_below}
use Rattle.finite_graphs.specs.Walks.{At, In}
use Rattle.alias_merge.specs.declared.changes.Change.{Change}
use Rattle.alias_merge.specs.declared.changes.StateList.{StateList}
use Rattle.alias_merge.specs.declared.homes.Home.{Home}
use Rattle.alias_merge.specs.Choosing.{number_is}

-- the label of the class of a change's member
abbrev pub label_of : List ℕ → Change → Option ℕ
label_of labels c = slice_get labels c.member

-- the changes of a class
abbrev pub changes_of : List ℕ → ℕ → List Change → List Change
changes_of labels l cs = filter (λ c. number_is l (label_of labels c)) cs

-- a change before this one stands in an earlier list, or in the same state
abbrev pub conflicts : Change → Change → Bool
conflicts d c = nat_lt c.list d.list || ((c.list == d.list) && (c.state == d.state))

-- a list stands in more repeaters than a class has rows in
abbrev pub stands_outside : Option StateList → Option (Option Home) → Bool
stands_outside None home = false
stands_outside (Some list) None = false
stands_outside (Some list) (Some None) = false
stands_outside (Some list) (Some (Some home)) = nat_lt home.repeaters list.repeaters

-- a change behind other ones breaks the rule
abbrev pub breaks_rule : List ℕ → List (Option Home) → List StateList → List Change → Change → Option ℕ → Bool
breaks_rule labels homes lists before d None = false
breaks_rule labels homes lists before d (Some l) = list_any (conflicts d) (changes_of labels l before) || stands_outside (slice_get lists d.list) (slice_get homes l)

-- the fault at the path of a change
abbrev pub at_path : Change → Fault
at_path d = record { rule = rules.TwoStateLists; span = d.path }

abbrev pub fault_if : Bool → Change → List Fault
fault_if broken d = if broken then at_path d ∷ [] else []

-- the faults of changes behind other ones
abbrev pub faults_behind : List ℕ → List (Option Home) → List StateList → List Change → List Change → List Fault
faults_behind labels homes lists before [] = []
faults_behind labels homes lists before (d ∷ ds) =
    fault_if (breaks_rule labels homes lists before d (label_of labels d)) d ++ faults_behind labels homes lists (before ++ d ∷ []) ds

abbrev pub change_faults : List ℕ → List (Option Home) → List StateList → List Change → List Fault
change_faults labels homes lists cs = faults_behind labels homes lists [] cs

-- ---- the order of changes: by list, then by state

abbrev pub NotAfter : Change → Change → Type 0
NotAfter c d = (c.list < d.list) ⊎ ((c.list ≡ d.list) × (c.state ≤ d.state))

-- no change stands after a later one
abbrev pub InOrder : List Change → Type 0
InOrder [] = Unit {0}
InOrder (c ∷ cs) = ((d : Change) → In d cs → NotAfter c d) × InOrder cs

-- labels are numbers of members
pub record HasSmallLabels (labels : List ℕ) : Type 0 where
  pub small : (a l : ℕ) → At l labels a → l < length labels

-- ---- which list changes a class

abbrev pub first_list : List Change → Option ℕ
first_list [] = None
first_list (c ∷ cs) = Some c.list

-- by label, the first list that changes the class
abbrev pub changed_by : List ℕ → List Change → List (Option ℕ)
changed_by labels cs = each_below (λ l. first_list (changes_of labels l cs)) (length labels)
