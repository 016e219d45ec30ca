use Rattle.slint_grammar.specs.Grammar.{Alt as alts}
use Rattle.slint_parser.proofs.Joining.{alt_error, took_by, end_all, and_one, at_one, past_one}
use Rattle.slint_parser.proofs.leaves.children_item.Goals as goal

pub returns-in_err-at : goal.returns-in_err-at
returns-in_err-at c =
    alt_error alts.children_item c.args.depth c.args.cursor.now c.symbol.new.self _ c.from_residual.result c.from_residual.ensures.1 (at_one c.in_err-at.ensures)

pub returns-in_err-word : goal.returns-in_err-word
returns-in_err-word c =
    alt_error alts.children_item c.args.depth c.args.cursor.now c.word.new.self _ c.from_residual-in_err-word.result c.from_residual-in_err-word.ensures.1 (past_one c.in_ok-at.ensures (at_one c.in_err-word.ensures))

pub returns : goal.returns
returns c =
    rw c.join-span.ensures (took_by alts.children_item (and_one c.in_ok-at.ensures (and_one c.in_ok-word.ensures (end_all c.args.depth c.word.new.self))))
