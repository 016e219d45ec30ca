use Rattle.std.proofs.Common.{refl}
use Rattle.slint_grammar.specs.Grammar.{Alt as alts}
use Rattle.slint_parser.proofs.Joining.{chosen_reads}
use Rattle.slint_parser.proofs.Among.{unlike}
use Rattle.slint_parser.proofs.ChosenValues.{chosen_block_run, chosen_expr_run}
use Rattle.slint_parser.proofs.statements.run.Goals as goal

pub returns-then-sees : goal.returns-then-sees
returns-then-sees c =
    chosen_reads alts.block_run c.args.depth c.args.cursor.now c.block_value.new.cursor c.block_value.result (chosen_block_run c.args.depth c.args.cursor.now (c.sees.ensures.0 c.if-sees.true)) c.block_value.ensures.of_run

pub returns : goal.returns
returns c =
    chosen_reads alts.expr_run c.args.depth c.args.cursor.now c.expr_value.new.cursor c.expr_value.result
    (chosen_expr_run c.args.depth c.args.cursor.now (unlike c.sees.result c.if-sees.false c.sees.ensures.1)) (c.expr_value.ensures.of_run refl)
