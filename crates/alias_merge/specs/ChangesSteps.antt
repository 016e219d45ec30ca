-- The passes over changes by which their faults are found.
use Rattle.std.specs.Prelude.{ℕ, Bool, false, ◌==◌, ◌||◌, ◌&&◌, List, [], ◌∷◌, ◌++◌, nat_lt, slice_get, unwrap_or, Option, Some, None}
use Rattle.slint_base.specs.declared.faults.Fault.{Fault}
use Rattle.alias_merge.specs.declared.changes.Change.{Change}
use Rattle.alias_merge.specs.declared.changes.Seen.{Seen}
use Rattle.alias_merge.specs.declared.changes.StateList.{StateList}
use Rattle.alias_merge.specs.declared.homes.Home.{Home}
use Rattle.alias_merge.specs.Changes.{fault_if, label_of, stands_outside}
use Rattle.alias_merge.specs.ChoosingSteps.{put}

-- the list of the first change
abbrev pub keep_first : Option ℕ → Change → Option ℕ
keep_first None c = Some c.list
keep_first (Some list) c = Some list

-- what changes come to with one more
abbrev pub see_from : ℕ → Change → Option Seen
see_from first c = Some (record { first = first; list = c.list; state = c.state })

abbrev pub see : Option Seen → Change → Option Seen
see None c = see_from c.list c
see (Some s) c = see_from s.first c

-- a class was changed by an earlier list than a change's, or in its state
abbrev pub is_seen_by : Change → Option Seen → Bool
is_seen_by d None = false
is_seen_by d (Some s) = nat_lt s.first d.list || ((s.list == d.list) && (s.state == d.state))

abbrev pub seen_at : List (Option Seen) → ℕ → Option Seen
seen_at seen l = unwrap_or (slice_get seen l) None

abbrev pub breaks_seen : List (Option Home) → List StateList → List (Option Seen) → Change → Option ℕ → Bool
breaks_seen homes lists seen d None = false
breaks_seen homes lists seen d (Some l) = is_seen_by d (seen_at seen l) || stands_outside (slice_get lists d.list) (slice_get homes l)

-- the faults of changes, by what is seen before them
abbrev pub faults_seen : List ℕ → List (Option Home) → List StateList → List (Option Seen) → List Change → List Fault
faults_seen labels homes lists seen [] = []
faults_seen labels homes lists seen (d ∷ ds) =
    fault_if (breaks_seen homes lists seen d (label_of labels d)) d ++ faults_seen labels homes lists (put see (label_of labels d) d seen) ds
