use Rattle.slint_grammar.specs.Grammar.{Alt as alts}
use Rattle.slint_parser.proofs.Joining.{alt_error, took_by, end_all, and_same, at_same}
use Rattle.slint_parser.proofs.leaves.property_item.Goals as goal

pub returns-in_err-property : goal.returns-in_err-property
returns-in_err-property c =
    alt_error alts.property_item c.args.depth c.args.cursor.now c.property.new.cursor _ c.from_residual.result c.from_residual.ensures.1 (at_same c.in_err-property.ensures)

pub returns : goal.returns
returns c =
    took_by alts.property_item (and_same c.in_ok-property.ensures (end_all c.args.depth c.property.new.cursor))
