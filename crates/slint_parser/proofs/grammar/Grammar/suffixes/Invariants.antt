use Rattle.std.proofs.Common.{length}
use Rattle.slint_parser.proofs.Links.{SuffixesSoFar}
use Rattle.slint_parser.proofs.grammar.Grammar.suffixes.Given as goal

abbrev pub invariant-suffixes : goal.invariant-suffixes
invariant-suffixes g l = SuffixesSoFar l.self.depth l.initial.cursor l.cursor l.all

abbrev pub decreases-suffixes : goal.decreases-suffixes
decreases-suffixes g l = length l.cursor
