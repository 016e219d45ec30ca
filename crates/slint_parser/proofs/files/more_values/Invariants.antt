use Rattle.std.proofs.Common.{length}
use Rattle.slint_parser.proofs.ChosenFiles.{BegunMore}
use Rattle.slint_parser.proofs.files.more_values.Given as goal

abbrev pub invariant-items : goal.invariant-items
invariant-items l = BegunMore l.fn.first l.fn.cursor l.cursor l.all

abbrev pub decreases-items : goal.decreases-items
decreases-items l = length l.cursor
