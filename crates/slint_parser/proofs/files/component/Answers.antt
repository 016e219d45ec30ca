use Rattle.slint_grammar.specs.Grammar.{Alt as alts}
use Rattle.slint_parser.proofs.Joining.{alt_error, took_by, end_all, and_one, and_same, and_deep, at_one, at_same, at_deep, past_one, past_same}
use Rattle.slint_parser.proofs.files.component.Goals as goal

pub returns-in_err-word : goal.returns-in_err-word
returns-in_err-word c = alt_error alts.component 0 c.args.cursor.now c.word.new.self _ c.from_residual.result c.from_residual.ensures.1 (at_one c.in_err-word.ensures)

pub returns-in_err-name : goal.returns-in_err-name
returns-in_err-name c = alt_error alts.component 0 c.args.cursor.now c.name.new.self _ c.from_residual-in_err-name.result c.from_residual-in_err-name.ensures.1 (past_one c.in_ok-word.ensures (at_one c.in_err-name.ensures))

pub returns-in_err-base : goal.returns-in_err-base
returns-in_err-base c = alt_error alts.component 0 c.args.cursor.now c.base.new.cursor _ c.from_residual-in_err-base.result c.from_residual-in_err-base.ensures.1 (past_one c.in_ok-word.ensures (past_one c.in_ok-name.ensures (at_same c.in_err-base.ensures)))

pub returns-in_err-body : goal.returns-in_err-body
returns-in_err-body c = alt_error alts.component 0 c.args.cursor.now c.body.new.cursor _ c.from_residual-in_err-body.result c.from_residual-in_err-body.ensures.1 (past_one c.in_ok-word.ensures (past_one c.in_ok-name.ensures (past_same c.in_ok-base.ensures (at_deep 0 c.in_err-body.ensures))))

pub returns : goal.returns
returns c = took_by alts.component (and_one c.in_ok-word.ensures (and_one c.in_ok-name.ensures (and_same c.in_ok-base.ensures (and_deep 0 c.in_ok-body.ensures (end_all 0 c.body.new.cursor)))))
