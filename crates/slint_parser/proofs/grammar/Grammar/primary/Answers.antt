use Rattle.slint_parser.specs.Starts.{start_of}
use Rattle.slint_grammar.specs.Grammar.{Alt as alts}
use Rattle.slint_parser.proofs.Among.{unlike}
use Rattle.slint_parser.proofs.Joining.{chosen_reads}
use Rattle.slint_parser.proofs.Firsts as firsts
use Rattle.slint_parser.proofs.grammar.Grammar.primary.Goals as goal

pub returns-then-sees : goal.returns-then-sees
returns-then-sees g c =
    chosen_reads (alts.paren {h = (start_of c.args.start)}) c.args.self.now.depth c.args.cursor.now c.parenthesized.new.cursor c.parenthesized.result (firsts.chosen_paren (start_of c.args.start) c.args.self.now.depth c.args.cursor.now (c.sees.ensures.0 c.if-sees.true)) (c.parenthesized.ensures (start_of c.args.start))

pub returns-then-sees-2 : goal.returns-then-sees-2
returns-then-sees-2 g c =
    chosen_reads (alts.array {h = (start_of c.args.start)}) c.args.self.now.depth c.args.cursor.now c.array.new.cursor c.array.result (firsts.chosen_array (start_of c.args.start) c.args.self.now.depth c.args.cursor.now (c.sees-2.ensures.0 c.if-sees-2.true)) (c.array.ensures (start_of c.args.start))

pub returns-then-sees-3 : goal.returns-then-sees-3
returns-then-sees-3 g c =
    c.special.ensures (start_of c.args.start) (c.sees-3.ensures.0 c.if-sees-3.true)

pub returns-then-shows : goal.returns-then-shows
returns-then-shows g c =
    chosen_reads (alts.template {h = (start_of c.args.start)}) c.args.self.now.depth c.args.cursor.now c.template.new.cursor c.template.result (firsts.chosen_template (start_of c.args.start) c.args.self.now.depth c.args.cursor.now (c.shows.ensures.0 c.if-shows.true)) (c.template.ensures (start_of c.args.start))

pub returns-then-shows_struct : goal.returns-then-shows_struct
returns-then-shows_struct g c =
    let e = c.shows_struct.ensures.yes c.if-shows_struct.true in chosen_reads (alts.struct {h = (start_of c.args.start)}) c.args.self.now.depth c.args.cursor.now c.struct_literal.new.cursor c.struct_literal.result (firsts.chosen_struct (start_of c.args.start) c.args.self.now.depth c.args.cursor.now e.0 e.1) c.struct_literal.ensures

pub struct_literal-requires : goal.struct_literal-requires
struct_literal-requires g c =
    record { nests = c.requires.nests; may = (c.shows_struct.ensures.yes c.if-shows_struct.true).0 }

pub returns : goal.returns
returns g c =
    c.single.ensures (unlike c.sees.result c.if-sees.false c.sees.ensures.1, unlike c.sees-2.result c.if-sees-2.false c.sees-2.ensures.1, unlike c.sees-3.result c.if-sees-3.false c.sees-3.ensures.1, unlike c.shows.result c.if-shows.false c.shows.ensures.1, c.shows_struct.ensures.unless c.if-shows_struct.false)
