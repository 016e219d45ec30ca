use Rattle.std.proofs.Common.{length}
use Rattle.slint_parser.proofs.Chains.{Disjuncts}
use Rattle.slint_parser.proofs.grammar.Grammar.more_disjuncts.Given as goal

abbrev pub invariant-more_disjuncts : goal.invariant-more_disjuncts
invariant-more_disjuncts g l = Disjuncts l.self.depth l.initial.cursor l.cursor l.fn.first l.all

abbrev pub decreases-more_disjuncts : goal.decreases-more_disjuncts
decreases-more_disjuncts g l = length l.cursor
