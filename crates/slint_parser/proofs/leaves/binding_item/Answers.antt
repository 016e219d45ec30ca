use Rattle.slint_grammar.specs.Grammar.{Alt as alts}
use Rattle.slint_parser.proofs.Joining.{alt_error, took_by, end_all, and_one, and_same, at_one, at_same, past_one}
use Rattle.slint_parser.proofs.ChosenMembers.{took_but, stuck_but}
use Rattle.slint_parser.proofs.leaves.binding_item.Goals as goal

pub returns-in_err-name : goal.returns-in_err-name
returns-in_err-name c =
    alt_error alts.binding_item c.args.depth c.args.cursor.now c.name.new.self _ c.from_residual.result c.from_residual.ensures.1 (at_one (stuck_but c.args.depth c.requires.named c.in_err-name.ensures))

pub returns-in_err-symbol : goal.returns-in_err-symbol
returns-in_err-symbol c =
    alt_error alts.binding_item c.args.depth c.args.cursor.now c.symbol.new.self _ c.from_residual-in_err-symbol.result c.from_residual-in_err-symbol.ensures.1 (past_one (took_but c.args.depth c.requires.named c.in_ok-name.ensures) (at_one c.in_err-symbol.ensures))

pub returns-in_err-value : goal.returns-in_err-value
returns-in_err-value c =
    alt_error alts.binding_item c.args.depth c.args.cursor.now c.value.new.cursor _ c.from_residual-in_err-value.result c.from_residual-in_err-value.ensures.1 (past_one (took_but c.args.depth c.requires.named c.in_ok-name.ensures) (past_one c.in_ok-symbol.ensures (at_same c.in_err-value.ensures)))

pub returns : goal.returns
returns c =
    took_by alts.binding_item (and_one (took_but c.args.depth c.requires.named c.in_ok-name.ensures) (and_one c.in_ok-symbol.ensures (and_same c.in_ok-value.ensures (end_all c.args.depth c.value.new.cursor))))
