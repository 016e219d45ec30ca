use Rattle.std.proofs.Common.{◌≡◌, ◌++◌, take}
use Rattle.std.specs.List.{flat_map}
use Rattle.expr_reads.specs.Items.{named_when}
use Rattle.expr_reads.proofs.item_names.named_in_conditions.Given as goal

-- the names so far
abbrev pub invariant-loop-state : goal.invariant-loop-state
invariant-loop-state l = l.found ≡ l.initial.found ++ flat_map named_when (take l.state-index l.states)
