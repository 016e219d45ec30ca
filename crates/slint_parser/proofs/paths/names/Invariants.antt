use Rattle.std.proofs.Common.{◌≡◌, length}
use Rattle.slint_parser.specs.declared.stops.Seen.TheVariants as seens
use Rattle.slint_grammar.specs.Parts.{EnumValues, HandlerParameters, closer}
use Rattle.slint_parser.specs.Readings.{seen}
use Rattle.slint_parser.proofs.Listing.{BegunList}
use Rattle.slint_parser.proofs.paths.names.Given as goal

abbrev pub invariant-items : goal.invariant-items
invariant-items l = record {
  open_yet : seen l.cursor ≡ seens.Symbol l.closer → ⊥;
  of_enum : closer EnumValues ≡ l.closer → BegunList EnumValues l.depth l.fn.cursor l.cursor l.all;
  of_handler : closer HandlerParameters ≡ l.closer → BegunList HandlerParameters l.depth l.fn.cursor l.cursor l.all;
}

abbrev pub decreases-items : goal.decreases-items
decreases-items l = length l.cursor
