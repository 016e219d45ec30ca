use Rattle.std.proofs.Common.{length}
use Rattle.slint_parser.proofs.Chains.{Conjuncts}
use Rattle.slint_parser.proofs.grammar.Grammar.more_conjuncts.Given as goal

abbrev pub invariant-more_conjuncts : goal.invariant-more_conjuncts
invariant-more_conjuncts g l = Conjuncts l.self.depth l.initial.cursor l.cursor l.fn.first l.all

abbrev pub decreases-more_conjuncts : goal.decreases-more_conjuncts
decreases-more_conjuncts g l = length l.cursor
