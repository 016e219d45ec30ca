use Rattle.std.proofs.Common.{refl}
use Rattle.slint_parser.proofs.Joining.{end_all, and_one, at_one, past_one}
use Rattle.slint_parser.proofs.ChosenMembers as chosen
use Rattle.slint_parser.proofs.properties.marked.Goals as goal

pub returns-in_err-span : goal.returns-in_err-span
returns-in_err-span c =
    chosen.marked_error c.args.mark c.args.word c.args.depth c.args.cursor.now c.word.new.self _ c.from_residual.result c.from_residual.ensures.1 (at_one c.in_err-span.ensures)

pub returns-in_err-word : goal.returns-in_err-word
returns-in_err-word c =
    chosen.marked_error c.args.mark c.args.word c.args.depth c.args.cursor.now c.word-2.new.self _ c.from_residual-in_err-word.result c.from_residual-in_err-word.ensures.1 (past_one c.in_ok-span.ensures (at_one c.in_err-word.ensures))

pub returns : goal.returns
returns c = (_, and_one c.in_ok-span.ensures (and_one c.in_ok-word.ensures (end_all c.args.depth c.word-2.new.self)), refl)
