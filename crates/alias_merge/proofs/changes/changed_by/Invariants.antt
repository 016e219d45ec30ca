use Rattle.std.proofs.Common.{◌≡◌, drop, length, None}
use Rattle.std.specs.Prelude.{replicate}
use Rattle.alias_merge.specs.Changes.{label_of}
use Rattle.alias_merge.specs.ChangesSteps.{keep_first}
use Rattle.alias_merge.specs.ChoosingSteps.{grouped}
use Rattle.alias_merge.proofs.changes.changed_by.Given as goal

-- with the changes that are left the lists become those of all
abbrev pub invariant-loop-change : goal.invariant-loop-change
invariant-loop-change l = grouped keep_first (label_of l.labels) l.lists (drop l.change-index l.changes) ≡ grouped keep_first (label_of l.labels) (replicate (length l.labels) None) l.changes
