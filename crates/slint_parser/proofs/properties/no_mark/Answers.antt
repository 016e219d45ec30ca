use Rattle.slint_grammar.specs.Grammar.{Alt as alts}
use Rattle.slint_parser.proofs.Joining.{alt_error, took_by, end_all, and_one, at_one}
use Rattle.slint_parser.proofs.properties.no_mark.Goals as goal

pub returns-in_err-word : goal.returns-in_err-word
returns-in_err-word c =
    alt_error alts.no_mark c.args.depth c.args.cursor.now c.word.new.self _ c.from_residual.result c.from_residual.ensures.1 (at_one c.in_err-word.ensures)

pub returns : goal.returns
returns c =
    took_by alts.no_mark (and_one c.in_ok-word.ensures (end_all c.args.depth c.word.new.self))
