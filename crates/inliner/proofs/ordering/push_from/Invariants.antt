use Rattle.std.proofs.Common.{◌≡◌, ◌++◌, take}
use Rattle.inliner.proofs.ordering.push_from.Given as goal

abbrev pub invariant-loop-task : goal.invariant-loop-task
invariant-loop-task l = l.tasks ≡ l.initial.tasks ++ take l.task-index l.more
