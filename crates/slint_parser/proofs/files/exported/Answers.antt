use Rattle.slint_grammar.specs.Grammar.{Alt as alts}
use Rattle.slint_parser.proofs.Joining.{alt_error, took_by, end_all, and_one, and_same, at_one, at_same, past_one}
use Rattle.slint_parser.proofs.files.exported.Goals as goal

pub returns-in_err-word : goal.returns-in_err-word
returns-in_err-word c = alt_error alts.exported 0 c.args.cursor.now c.word.new.self _ c.from_residual.result c.from_residual.ensures.1 (at_one c.in_err-word.ensures)

pub returns-in_err-decl : goal.returns-in_err-decl
returns-in_err-decl c = alt_error alts.exported 0 c.args.cursor.now c.decl.new.cursor _ c.from_residual-in_err-decl.result c.from_residual-in_err-decl.ensures.1 (past_one c.in_ok-word.ensures (at_same c.in_err-decl.ensures))

pub returns : goal.returns
returns c = took_by alts.exported (and_one c.in_ok-word.ensures (and_same c.in_ok-decl.ensures (end_all 0 c.decl.new.cursor)))
