use Rattle.std.proofs.Common.{refl}
use Rattle.slint_grammar.specs.Grammar.{Alt as alts}
use Rattle.slint_parser.proofs.Joining.{alt_error, took_by, end_all, and_one, and_same, at_one, at_same, past_one}
use Rattle.slint_parser.proofs.files.struct_decl.Goals as goal

pub returns-in_err-word : goal.returns-in_err-word
returns-in_err-word c = alt_error alts.struct_decl 0 c.args.cursor.now c.word.new.self _ c.from_residual.result c.from_residual.ensures.1 (at_one c.in_err-word.ensures)

pub returns-in_err-name : goal.returns-in_err-name
returns-in_err-name c = alt_error alts.struct_decl 0 c.args.cursor.now c.name.new.self _ c.from_residual-in_err-name.result c.from_residual-in_err-name.ensures.1 (past_one c.in_ok-word.ensures (at_one c.in_err-name.ensures))

pub returns-in_err-symbol : goal.returns-in_err-symbol
returns-in_err-symbol c = alt_error alts.struct_decl 0 c.args.cursor.now c.symbol.new.self _ c.from_residual-in_err-symbol.result c.from_residual-in_err-symbol.ensures.1 (past_one c.in_ok-word.ensures (past_one c.in_ok-name.ensures (at_one c.in_err-symbol.ensures)))

pub returns-in_err-fields : goal.returns-in_err-fields
returns-in_err-fields c = alt_error alts.struct_decl 0 c.args.cursor.now c.fields.new.cursor _ c.from_residual-in_err-fields.result c.from_residual-in_err-fields.ensures.1 (past_one c.in_ok-word.ensures (past_one c.in_ok-name.ensures (past_one c.in_ok-symbol.ensures (at_same (c.in_err-fields.ensures.of_struct refl)))))

pub returns : goal.returns
returns c = took_by alts.struct_decl (and_one c.in_ok-word.ensures (and_one c.in_ok-name.ensures (and_one c.in_ok-symbol.ensures (and_same (c.in_ok-fields.ensures.of_struct refl) (end_all 0 c.fields.new.cursor)))))
