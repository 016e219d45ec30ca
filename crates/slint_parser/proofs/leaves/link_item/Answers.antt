use Rattle.slint_grammar.specs.Grammar.{Alt as alts}
use Rattle.slint_parser.proofs.Joining.{alt_error, took_by, end_all, and_one, and_same, at_one, at_same, past_one, past_same}
use Rattle.slint_parser.proofs.ChosenMembers.{took_but, stuck_but}
use Rattle.slint_parser.proofs.leaves.link_item.Goals as goal

pub returns-in_err-left : goal.returns-in_err-left
returns-in_err-left c =
    alt_error alts.link_item c.args.depth c.args.cursor.now c.name.new.self _ c.from_residual.result c.from_residual.ensures.1 (at_one (stuck_but c.args.depth c.requires.named c.in_err-left.ensures))

pub returns-in_err-symbol : goal.returns-in_err-symbol
returns-in_err-symbol c =
    alt_error alts.link_item c.args.depth c.args.cursor.now c.symbol.new.self _ c.from_residual-in_err-symbol.result c.from_residual-in_err-symbol.ensures.1 (past_one (took_but c.args.depth c.requires.named c.in_ok-left.ensures) (at_one c.in_err-symbol.ensures))

pub returns-in_err-right : goal.returns-in_err-right
returns-in_err-right c =
    alt_error alts.link_item c.args.depth c.args.cursor.now c.path.new.cursor _ c.from_residual-in_err-right.result c.from_residual-in_err-right.ensures.1 (past_one (took_but c.args.depth c.requires.named c.in_ok-left.ensures) (past_one c.in_ok-symbol.ensures (at_same c.in_err-right.ensures)))

pub returns-in_err-end : goal.returns-in_err-end
returns-in_err-end c =
    alt_error alts.link_item c.args.depth c.args.cursor.now c.symbol-2.new.self _ c.from_residual-in_err-end.result c.from_residual-in_err-end.ensures.1 (past_one (took_but c.args.depth c.requires.named c.in_ok-left.ensures) (past_one c.in_ok-symbol.ensures (past_same c.in_ok-right.ensures (at_one c.in_err-end.ensures))))

pub returns : goal.returns
returns c =
    rw c.join-span.ensures (took_by alts.link_item (and_one (took_but c.args.depth c.requires.named c.in_ok-left.ensures) (and_one c.in_ok-symbol.ensures (and_same c.in_ok-right.ensures (and_one c.in_ok-end.ensures (end_all c.args.depth c.symbol-2.new.self))))))
