use Rattle.std.proofs.Common.{length}
use Rattle.slint_parser.proofs.ChosenMembers.{Points}
use Rattle.slint_parser.proofs.paths.path_rest.Given as goal

abbrev pub invariant-points : goal.invariant-points
invariant-points l = Points l.depth l.fn.cursor l.cursor l.rest

abbrev pub decreases-points : goal.decreases-points
decreases-points l = length l.cursor
