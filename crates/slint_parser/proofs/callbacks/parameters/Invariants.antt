use Rattle.std.proofs.Common.{◌≡◌, length}
use Rattle.slint_lexer.specs.declared.tokens.Symbol.TheVariants as symbols
use Rattle.slint_parser.specs.declared.stops.Seen.TheVariants as seens
use Rattle.slint_grammar.specs.Parts.{Parameters}
use Rattle.slint_parser.specs.Readings.{seen}
use Rattle.slint_parser.proofs.Listing.{BegunList}
use Rattle.slint_parser.proofs.callbacks.parameters.Given as goal

abbrev pub invariant-items : goal.invariant-items
invariant-items l = record {
  open_yet : seen l.cursor ≡ seens.Symbol symbols.CloseParen → ⊥;
  begun : BegunList Parameters l.depth l.fn.cursor l.cursor l.all;
}

abbrev pub decreases-items : goal.decreases-items
decreases-items l = length l.cursor
