use Rattle.std.proofs.Common.{length}
use Rattle.slint_parser.proofs.Chains.{Terms}
use Rattle.slint_parser.proofs.grammar.Grammar.terms.Given as goal

abbrev pub invariant-terms : goal.invariant-terms
invariant-terms g l = Terms l.self.depth l.initial.cursor l.cursor l.all

abbrev pub decreases-terms : goal.decreases-terms
decreases-terms g l = length l.cursor
