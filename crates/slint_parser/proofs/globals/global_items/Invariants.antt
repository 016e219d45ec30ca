use Rattle.std.proofs.Common.{length}
use Rattle.slint_parser.proofs.ChosenGlobals.{Globals}
use Rattle.slint_parser.proofs.globals.global_items.Given as goal

abbrev pub invariant-items : goal.invariant-items
invariant-items l = Globals l.depth l.fn.cursor l.cursor l.all

abbrev pub decreases-items : goal.decreases-items
decreases-items l = length l.cursor
