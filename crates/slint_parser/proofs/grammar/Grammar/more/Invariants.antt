use Rattle.std.proofs.Common.{◌≡◌, length}
use Rattle.slint_grammar.specs.Parts.{Arguments, Elements, closer}
use Rattle.slint_parser.proofs.Links.{ArgumentsSoFar, ElementsSoFar}
use Rattle.slint_parser.proofs.grammar.Grammar.more.Given as goal

abbrev pub invariant-items : goal.invariant-items
invariant-items g l = record {
  of_arguments : closer Arguments ≡ l.closer → ArgumentsSoFar l.self.depth l.initial.cursor l.cursor l.fn.all l.all;
  of_elements : closer Elements ≡ l.closer → ElementsSoFar l.self.depth l.initial.cursor l.cursor l.fn.all l.all;
}

abbrev pub decreases-items : goal.decreases-items
decreases-items g l = length l.cursor
