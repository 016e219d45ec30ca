use Rattle.std.proofs.Common.{◌≡◌, ◌++◌, take}
use Rattle.std.specs.List.{flat_map}
use Rattle.expr_reads.specs.Items.{named_change}
use Rattle.expr_reads.proofs.item_names.add_changes.Given as goal

-- the names so far
abbrev pub invariant-loop-change : goal.invariant-loop-change
invariant-loop-change l = l.found ≡ l.initial.found ++ flat_map named_change (take l.change-index l.changes)
