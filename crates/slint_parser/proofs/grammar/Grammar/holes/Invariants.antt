use Rattle.std.proofs.Common.{length}
use Rattle.slint_parser.proofs.Links.{HolesSoFar}
use Rattle.slint_parser.proofs.grammar.Grammar.holes.Given as goal

abbrev pub invariant-holes : goal.invariant-holes
invariant-holes g l = HolesSoFar l.self.depth l.initial.cursor l.cursor l.fn.first l.value l.all

abbrev pub decreases-holes : goal.decreases-holes
decreases-holes g l = length l.cursor
