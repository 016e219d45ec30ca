use Rattle.slint_grammar.specs.Grammar.{Alt as alts}
use Rattle.slint_parser.proofs.Joining.{chosen_reads}
use Rattle.slint_parser.proofs.Among.{unlike}
use Rattle.slint_parser.proofs.ChosenFiles.{chosen_names, no_names}
use Rattle.slint_parser.proofs.files.import_names.Goals as goal

pub returns-then-sees : goal.returns-then-sees
returns-then-sees c = chosen_reads alts.import_names 0 c.args.cursor.now c.some_names.new.cursor c.some_names.result (chosen_names 0 c.args.cursor.now (c.sees.ensures.0 c.if-sees.true)) c.some_names.ensures

pub returns : goal.returns
returns c = no_names 0 c.args.cursor.now (unlike c.sees.result c.if-sees.false c.sees.ensures.1)
