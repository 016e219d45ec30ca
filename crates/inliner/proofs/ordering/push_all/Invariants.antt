use Rattle.std.proofs.Common.{◌≡◌, ◌++◌, length}
use Rattle.std.specs.Prelude.{reverse}
use Rattle.inliner.proofs.ordering.push_all.Given as goal

abbrev pub invariant-pushes : goal.invariant-pushes
invariant-pushes l = l.tasks ++ reverse l.stack ≡ l.initial.tasks ++ reverse l.initial.stack

abbrev pub decreases-pushes : goal.decreases-pushes
decreases-pushes l = length l.tasks
