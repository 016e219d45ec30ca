use Rattle.slint_grammar.specs.Grammar.{Alt as alts}
use Rattle.slint_parser.proofs.Joining.{alt_error, took_by, end_all, and_one, and_same, at_one, at_same, past_one}
use Rattle.slint_parser.proofs.files.global.Goals as goal

pub returns-in_err-word : goal.returns-in_err-word
returns-in_err-word c = alt_error alts.global 0 c.args.cursor.now c.word.new.self _ c.from_residual.result c.from_residual.ensures.1 (at_one c.in_err-word.ensures)

pub returns-in_err-name : goal.returns-in_err-name
returns-in_err-name c = alt_error alts.global 0 c.args.cursor.now c.name.new.self _ c.from_residual-in_err-name.result c.from_residual-in_err-name.ensures.1 (past_one c.in_ok-word.ensures (at_one c.in_err-name.ensures))

pub returns-in_err-items : goal.returns-in_err-items
returns-in_err-items c = alt_error alts.global 0 c.args.cursor.now c.global_body.new.cursor _ c.from_residual-in_err-items.result c.from_residual-in_err-items.ensures.1 (past_one c.in_ok-word.ensures (past_one c.in_ok-name.ensures (at_same c.in_err-items.ensures)))

pub returns : goal.returns
returns c = took_by alts.global (and_one c.in_ok-word.ensures (and_one c.in_ok-name.ensures (and_same c.in_ok-items.ensures (end_all 0 c.global_body.new.cursor))))
