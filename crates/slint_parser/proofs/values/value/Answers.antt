use Rattle.std.proofs.Common.{refl}
use Rattle.slint_grammar.specs.Grammar.{Alt as alts}
use Rattle.slint_parser.proofs.Joining.{chosen_reads}
use Rattle.slint_parser.proofs.Among.{unlike}
use Rattle.slint_parser.proofs.ChosenBraces.{chosen_no_brace}
use Rattle.slint_parser.proofs.values.value.Goals as goal

pub returns-then-sees : goal.returns-then-sees
returns-then-sees c = c.braced_value.ensures

pub returns : goal.returns
returns c =
    chosen_reads alts.expr_value c.args.depth c.args.cursor.now c.expr_value.new.cursor c.expr_value.result
    (chosen_no_brace c.args.depth c.args.cursor.now (unlike c.sees.result c.if-sees.false c.sees.ensures.1)) (c.expr_value.ensures.of_value refl)
