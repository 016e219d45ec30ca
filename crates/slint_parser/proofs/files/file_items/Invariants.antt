use Rattle.std.proofs.Common.{length}
use Rattle.slint_parser.proofs.ChosenFiles.{BegunFile}
use Rattle.slint_parser.proofs.files.file_items.Given as goal

abbrev pub invariant-items : goal.invariant-items
invariant-items l = BegunFile l.fn.cursor l.cursor l.all

abbrev pub decreases-items : goal.decreases-items
decreases-items l = length l.cursor
