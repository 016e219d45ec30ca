use Rattle.slint_grammar.specs.Grammar.{Alt as alts}
use Rattle.slint_parser.proofs.Joining.{chosen_reads}
use Rattle.slint_parser.proofs.Among.{unlike}
use Rattle.slint_parser.proofs.ChosenFiles.{chosen_export_list, chosen_export_all, chosen_exported}
use Rattle.slint_parser.proofs.files.export.Goals as goal

pub returns-then-shows_next : goal.returns-then-shows_next
returns-then-shows_next c = chosen_reads alts.export_list 0 c.args.cursor.now c.export_list.new.cursor c.export_list.result (chosen_export_list 0 c.args.cursor.now c.requires (c.shows_next.ensures.0 c.if-shows_next.true)) c.export_list.ensures

pub returns-then-shows_next-2 : goal.returns-then-shows_next-2
returns-then-shows_next-2 c = chosen_reads alts.export_all 0 c.args.cursor.now c.export_all.new.cursor c.export_all.result (chosen_export_all 0 c.args.cursor.now c.requires (c.shows_next-2.ensures.0 c.if-shows_next-2.true)) c.export_all.ensures

pub returns : goal.returns
returns c = chosen_reads alts.exported 0 c.args.cursor.now c.exported.new.cursor c.exported.result (chosen_exported 0 c.args.cursor.now c.requires (unlike c.shows_next.result c.if-shows_next.false c.shows_next.ensures.1) (unlike c.shows_next-2.result c.if-shows_next-2.false c.shows_next-2.ensures.1)) c.exported.ensures
