use Rattle.std.proofs.Common.{◌≡◌, ◌+◌, ◌-◌, ◌*◌, length}
use Rattle.slint_parser.specs.declared.stops.Seen.TheVariants as seens
use Rattle.slint_grammar.specs.Parts.{Fields, FunctionParameters, closer}
use Rattle.slint_parser.specs.Readings.{seen}
use Rattle.slint_parser.proofs.Listing.{BegunList}
use Rattle.slint_parser.proofs.types.+types.Given as goal

abbrev pub decreases-type_name : goal.decreases-type_name
decreases-type_name l = (102 - l.depth) * 4 + 3

abbrev pub decreases-array_type : goal.decreases-array_type
decreases-array_type l = (102 - l.depth) * 4 + 2

abbrev pub decreases-struct_type : goal.decreases-struct_type
decreases-struct_type l = (102 - l.depth) * 4 + 2

abbrev pub decreases-fields : goal.decreases-fields
decreases-fields l = (102 - l.depth) * 4 + 1

abbrev pub decreases-field : goal.decreases-field
decreases-field l = (102 - l.depth) * 4

abbrev pub invariant-fields-items : goal.invariant-fields-items
invariant-fields-items l = record {
  open_yet : seen l.cursor ≡ seens.Symbol l.closer → ⊥;
  of_struct : closer Fields ≡ l.closer → BegunList Fields l.depth l.fn.cursor l.cursor l.all;
  of_function : closer FunctionParameters ≡ l.closer → BegunList FunctionParameters l.depth l.fn.cursor l.cursor l.all;
}

abbrev pub decreases-fields-items : goal.decreases-fields-items
decreases-fields-items l = length l.cursor
