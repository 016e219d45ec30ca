use Rattle.slint_grammar.specs.Grammar.{Alt as alts}
use Rattle.slint_parser.proofs.Joining.{alt_error, took_by, end_all, and_one, and_same, at_one, at_same, past_one}
use Rattle.slint_parser.proofs.ChosenFiles.{enum_read}
use Rattle.slint_parser.proofs.files.enum_decl.Goals as goal

pub returns-in_err-word : goal.returns-in_err-word
returns-in_err-word c = alt_error alts.enum_decl 0 c.args.cursor.now c.word.new.self _ c.from_residual.result c.from_residual.ensures.1 (at_one c.in_err-word.ensures)

pub returns-in_err-name : goal.returns-in_err-name
returns-in_err-name c = alt_error alts.enum_decl 0 c.args.cursor.now c.name.new.self _ c.from_residual-in_err-name.result c.from_residual-in_err-name.ensures.1 (past_one c.in_ok-word.ensures (at_one c.in_err-name.ensures))

pub returns-in_err-symbol : goal.returns-in_err-symbol
returns-in_err-symbol c = alt_error alts.enum_decl 0 c.args.cursor.now c.symbol.new.self _ c.from_residual-in_err-symbol.result c.from_residual-in_err-symbol.ensures.1 (past_one c.in_ok-word.ensures (past_one c.in_ok-name.ensures (at_one c.in_err-symbol.ensures)))

pub returns-in_err-first : goal.returns-in_err-first
returns-in_err-first c =
    alt_error alts.enum_decl 0 c.args.cursor.now c.name-2.new.self _ c.from_residual-in_err-first.result c.from_residual-in_err-first.ensures.1 (past_one c.in_ok-word.ensures (past_one c.in_ok-name.ensures (past_one c.in_ok-symbol.ensures (at_one c.in_err-first.ensures))))

pub returns-in_err-values : goal.returns-in_err-values
returns-in_err-values c =
    alt_error alts.enum_decl 0 c.args.cursor.now c.more_values.new.cursor _ c.from_residual-in_err-values.result c.from_residual-in_err-values.ensures.1 (past_one c.in_ok-word.ensures (past_one c.in_ok-name.ensures (past_one c.in_ok-symbol.ensures (past_one c.in_ok-first.ensures (at_same c.in_err-values.ensures)))))

pub returns : goal.returns
returns c =
    enum_read c.args.cursor.now c.name-2.new.self c.more_values.new.cursor c.in_ok-name.name c.in_ok-first.first c.in_ok-values.values _ c.in_ok-values.ensures
    (λ rest x. took_by alts.enum_decl (and_one c.in_ok-word.ensures (and_one c.in_ok-name.ensures (and_one c.in_ok-symbol.ensures (and_one c.in_ok-first.ensures (and_same x (end_all 0 c.more_values.new.cursor)))))))
