use Rattle.std.proofs.Common.{length}
use Rattle.slint_parser.proofs.ChosenStates.{States}
use Rattle.slint_parser.proofs.states.state_list.Given as goal

abbrev pub invariant-states : goal.invariant-states
invariant-states l = States l.depth l.fn.cursor l.cursor l.all

abbrev pub decreases-states : goal.decreases-states
decreases-states l = length l.cursor
