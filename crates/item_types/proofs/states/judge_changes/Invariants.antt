use Rattle.std.proofs.Common.{take}
use Rattle.item_types.specs.Judging.{Tells, each}
use Rattle.item_types.specs.Items.{change_judging}
use Rattle.item_types.proofs.states.judge_changes.Given as goal

-- what is told of the changes so far
abbrev pub invariant-loop-change : goal.invariant-loop-change
invariant-loop-change l = Tells (each (change_judging l.scope) (take l.change-index l.changes)) l.seen
