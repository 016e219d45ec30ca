use Rattle.std.proofs.Common.{take}
use Rattle.item_types.specs.Judging.{Tells, each}
use Rattle.item_types.specs.Items.{state_judging}
use Rattle.item_types.proofs.states.judge_all.Given as goal

-- what is told of the states so far
abbrev pub invariant-loop-state : goal.invariant-loop-state
invariant-loop-state l = Tells (each (state_judging l.scope) (take l.state-index l.states)) l.seen
