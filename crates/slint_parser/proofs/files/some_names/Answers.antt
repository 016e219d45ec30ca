use Rattle.slint_grammar.specs.Grammar.{Alt as alts}
use Rattle.slint_parser.proofs.Joining.{alt_error, took_by, end_all, and_one, and_same, at_one, at_same, past_one, past_same}
use Rattle.slint_parser.proofs.files.some_names.Goals as goal

pub returns-in_err-symbol : goal.returns-in_err-symbol
returns-in_err-symbol c = alt_error alts.import_names 0 c.args.cursor.now c.symbol.new.self _ c.from_residual.result c.from_residual.ensures.1 (at_one c.in_err-symbol.ensures)

pub returns-in_err-names : goal.returns-in_err-names
returns-in_err-names c = alt_error alts.import_names 0 c.args.cursor.now c.aliases.new.cursor _ c.from_residual-in_err-names.result c.from_residual-in_err-names.ensures.1 (past_one c.in_ok-symbol.ensures (at_same c.in_err-names.ensures))

pub returns-in_err-word : goal.returns-in_err-word
returns-in_err-word c = alt_error alts.import_names 0 c.args.cursor.now c.word.new.self _ c.from_residual-in_err-word.result c.from_residual-in_err-word.ensures.1 (past_one c.in_ok-symbol.ensures (past_same c.in_ok-names.ensures (at_one c.in_err-word.ensures)))

pub returns : goal.returns
returns c = took_by alts.import_names (and_one c.in_ok-symbol.ensures (and_same c.in_ok-names.ensures (and_one c.in_ok-word.ensures (end_all 0 c.word.new.self))))
