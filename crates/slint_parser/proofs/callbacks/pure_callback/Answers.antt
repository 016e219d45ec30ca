use Rattle.slint_grammar.specs.Grammar.{Alt as alts}
use Rattle.slint_parser.proofs.Joining.{alt_error, took_by, end_all, and_one, at_one, past_one}
use Rattle.slint_parser.proofs.callbacks.pure_callback.Goals as goal

pub returns-in_err-span : goal.returns-in_err-span
returns-in_err-span c =
    alt_error alts.pure_callback c.args.depth c.args.cursor.now c.word.new.self _ c.from_residual.result c.from_residual.ensures.1 (at_one c.in_err-span.ensures)

pub returns-in_err-word : goal.returns-in_err-word
returns-in_err-word c =
    alt_error alts.pure_callback c.args.depth c.args.cursor.now c.word-2.new.self _ c.from_residual-in_err-word.result c.from_residual-in_err-word.ensures.1 (past_one c.in_ok-span.ensures (at_one c.in_err-word.ensures))

pub returns : goal.returns
returns c =
    took_by alts.pure_callback (and_one c.in_ok-span.ensures (and_one c.in_ok-word.ensures (end_all c.args.depth c.word-2.new.self)))
