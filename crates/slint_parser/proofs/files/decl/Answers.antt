use Rattle.slint_grammar.specs.Grammar.{Alt as alts}
use Rattle.slint_parser.proofs.Joining.{chosen_reads}
use Rattle.slint_parser.proofs.Among.{unlike}
use Rattle.slint_parser.proofs.ChosenFiles.{chosen_component, chosen_global, chosen_struct_decl, chosen_enum_decl}
use Rattle.slint_parser.proofs.files.decl.Goals as goal

pub returns-then-shows : goal.returns-then-shows
returns-then-shows c = chosen_reads alts.component 0 c.args.cursor.now c.component.new.cursor c.component.result (chosen_component 0 c.args.cursor.now (c.shows.ensures.0 c.if-shows.true)) c.component.ensures

pub returns-then-shows-2 : goal.returns-then-shows-2
returns-then-shows-2 c = chosen_reads alts.global 0 c.args.cursor.now c.global.new.cursor c.global.result (chosen_global 0 c.args.cursor.now (c.shows-2.ensures.0 c.if-shows-2.true)) c.global.ensures

pub returns-then-shows-3 : goal.returns-then-shows-3
returns-then-shows-3 c = chosen_reads alts.struct_decl 0 c.args.cursor.now c.struct_decl.new.cursor c.struct_decl.result (chosen_struct_decl 0 c.args.cursor.now (c.shows-3.ensures.0 c.if-shows-3.true)) c.struct_decl.ensures

pub returns : goal.returns
returns c = chosen_reads alts.enum_decl 0 c.args.cursor.now c.enum_decl.new.cursor c.enum_decl.result (chosen_enum_decl 0 c.args.cursor.now (unlike c.shows.result c.if-shows.false c.shows.ensures.1) (unlike c.shows-2.result c.if-shows-2.false c.shows-2.ensures.1) (unlike c.shows-3.result c.if-shows-3.false c.shows-3.ensures.1)) c.enum_decl.ensures
