use Rattle.slint_grammar.specs.Grammar.{Alt as alts}
use Rattle.slint_parser.proofs.Joining.{chosen_reads}
use Rattle.slint_parser.proofs.ChosenMembers as chosen
use Rattle.slint_parser.proofs.paths.listed_name.Goals as goal

pub returns : goal.returns
returns c = chosen_reads alts.listed_name c.args.depth c.args.cursor.now c.name.new.self c.name.result (chosen.chosen_name c.args.depth c.args.cursor.now) (chosen.name_by c.args.depth c.args.cursor.now c.name.new.self c.name.result c.name.ensures)
