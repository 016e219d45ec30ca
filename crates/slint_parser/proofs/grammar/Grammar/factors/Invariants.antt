use Rattle.std.proofs.Common.{length}
use Rattle.slint_parser.proofs.Chains.{Factors}
use Rattle.slint_parser.proofs.grammar.Grammar.factors.Given as goal

abbrev pub invariant-factors : goal.invariant-factors
invariant-factors g l = Factors l.self.depth l.initial.cursor l.cursor l.all

abbrev pub decreases-factors : goal.decreases-factors
decreases-factors g l = length l.cursor
