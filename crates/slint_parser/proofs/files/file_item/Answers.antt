use Rattle.slint_grammar.specs.Parts as parts
use Rattle.slint_grammar.specs.Grammar.{Alt as alts}
use Rattle.slint_parser.proofs.Joining.{part_error, took_by, end_all, and_same, at_same, chosen_reads, chosen_took, chosen_stuck}
use Rattle.slint_parser.proofs.Among.{unlike}
use Rattle.slint_parser.proofs.ChosenFiles.{chosen_import, chosen_declared}
use Rattle.slint_parser.proofs.files.file_item.Goals as goal

pub returns-then-shows : goal.returns-then-shows
returns-then-shows c = chosen_reads alts.import_item 0 c.args.cursor.now c.import.new.cursor c.import.result (chosen_import 0 c.args.cursor.now (c.shows.ensures.0 c.if-shows.true)) c.import.ensures

pub returns-then-shows-2 : goal.returns-then-shows-2
returns-then-shows-2 c = c.export.ensures

pub returns-in_err-decl : goal.returns-in_err-decl
returns-in_err-decl c = part_error parts.FileItem 0 c.args.cursor.now c.decl.new.cursor _ c.from_residual.result c.from_residual.ensures.1 (chosen_stuck (chosen_declared 0 c.args.cursor.now (unlike c.shows.result c.if-shows.false c.shows.ensures.1) (unlike c.shows-2.result c.if-shows-2.false c.shows-2.ensures.1)) (at_same c.in_err-decl.ensures))

pub returns : goal.returns
returns c = chosen_took (chosen_declared 0 c.args.cursor.now (unlike c.shows.result c.if-shows.false c.shows.ensures.1) (unlike c.shows-2.result c.if-shows-2.false c.shows-2.ensures.1)) (took_by alts.declared (and_same c.in_ok-decl.ensures (end_all 0 c.decl.new.cursor)))
