use Rattle.slint_grammar.specs.Grammar.{Alt as alts}
use Rattle.slint_parser.proofs.Joining.{alt_error, took_by, end_all, and_one, at_one, past_one}
use Rattle.slint_parser.proofs.files.export_all.Goals as goal

pub returns-in_err-word : goal.returns-in_err-word
returns-in_err-word c = alt_error alts.export_all 0 c.args.cursor.now c.word.new.self _ c.from_residual.result c.from_residual.ensures.1 (at_one c.in_err-word.ensures)

pub returns-in_err-symbol : goal.returns-in_err-symbol
returns-in_err-symbol c = alt_error alts.export_all 0 c.args.cursor.now c.symbol.new.self _ c.from_residual-in_err-symbol.result c.from_residual-in_err-symbol.ensures.1 (past_one c.in_ok-word.ensures (at_one c.in_err-symbol.ensures))

pub returns-in_err-word-2 : goal.returns-in_err-word-2
returns-in_err-word-2 c = alt_error alts.export_all 0 c.args.cursor.now c.word-2.new.self _ c.from_residual-in_err-word-2.result c.from_residual-in_err-word-2.ensures.1 (past_one c.in_ok-word.ensures (past_one c.in_ok-symbol.ensures (at_one c.in_err-word-2.ensures)))

pub returns-in_err-path : goal.returns-in_err-path
returns-in_err-path c = alt_error alts.export_all 0 c.args.cursor.now c.text.new.self _ c.from_residual-in_err-path.result c.from_residual-in_err-path.ensures.1 (past_one c.in_ok-word.ensures (past_one c.in_ok-symbol.ensures (past_one c.in_ok-word-2.ensures (at_one c.in_err-path.ensures))))

pub returns-in_err-symbol-2 : goal.returns-in_err-symbol-2
returns-in_err-symbol-2 c = alt_error alts.export_all 0 c.args.cursor.now c.symbol-2.new.self _ c.from_residual-in_err-symbol-2.result c.from_residual-in_err-symbol-2.ensures.1 (past_one c.in_ok-word.ensures (past_one c.in_ok-symbol.ensures (past_one c.in_ok-word-2.ensures (past_one c.in_ok-path.ensures (at_one c.in_err-symbol-2.ensures)))))

pub returns : goal.returns
returns c = took_by alts.export_all (and_one c.in_ok-word.ensures (and_one c.in_ok-symbol.ensures (and_one c.in_ok-word-2.ensures (and_one c.in_ok-path.ensures (and_one c.in_ok-symbol-2.ensures (end_all 0 c.symbol-2.new.self))))))
