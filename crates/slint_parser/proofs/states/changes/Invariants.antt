use Rattle.std.proofs.Common.{length}
use Rattle.slint_parser.proofs.ChosenStates.{Changes}
use Rattle.slint_parser.proofs.states.changes.Given as goal

abbrev pub invariant-changes : goal.invariant-changes
invariant-changes l = Changes l.depth l.fn.cursor l.cursor l.all

abbrev pub decreases-changes : goal.decreases-changes
decreases-changes l = length l.cursor
