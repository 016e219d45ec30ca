use Rattle.slint_grammar.specs.Grammar.{Alt as alts}
use Rattle.slint_parser.proofs.Joining.{took_by, end_all, chosen_reads, chosen_took}
use Rattle.slint_parser.proofs.Among.{unlike}
use Rattle.slint_parser.proofs.HeadForks as chosen
use Rattle.slint_parser.proofs.leaves.may_row_number.Goals as goal

pub returns-then-sees : goal.returns-then-sees
returns-then-sees c =
    chosen_reads alts.row_number c.args.depth c.args.cursor.now c.row_number.new.cursor c.row_number.result (chosen.chosen_row_number c.args.depth c.args.cursor.now (c.sees.ensures.0 c.if-sees.true)) c.row_number.ensures

pub returns : goal.returns
returns c =
    chosen_took (chosen.chosen_no_row_number c.args.depth c.args.cursor.now (unlike c.sees.result c.if-sees.false c.sees.ensures.1)) (took_by alts.no_row_number (end_all c.args.depth c.args.cursor.now))
