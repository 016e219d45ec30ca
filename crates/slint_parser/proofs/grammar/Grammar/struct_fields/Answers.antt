use Rattle.std.proofs.Common.{sym}
use Rattle.slint_parser.specs.Starts.{start_of}
use Rattle.slint_grammar.specs.Grammar.{Alt as alts}
use Rattle.slint_parser.proofs.Among.{unlike}
use Rattle.slint_parser.proofs.Joining.{chosen_reads}
use Rattle.slint_parser.proofs.Links as links
use Rattle.std.proofs.Common.{inl, inr}
use Rattle.slint_parser.proofs.grammar.Grammar.struct_fields.Goals as goal

pub returns-then-not-admits_empty_struct : goal.returns-then-not-admits_empty_struct
returns-then-not-admits_empty_struct g c =
    chosen_reads (alts.some_fields {h = (start_of c.args.start)}) c.args.self.now.depth c.args.cursor.now c.some_fields.new.cursor c.some_fields.result (links.chosen_some_fields (start_of c.args.start) c.args.self.now.depth c.args.cursor.now (inl (sym c.if-not-admits_empty_struct.ensures))) (c.some_fields.ensures (start_of c.args.start))

pub returns-then-sees : goal.returns-then-sees
returns-then-sees g c =
    chosen_reads (alts.no_fields {h = (start_of c.args.start)}) c.args.self.now.depth c.args.cursor.now c.no_fields.new.cursor c.no_fields.result (links.chosen_no_fields (start_of c.args.start) c.args.self.now.depth c.args.cursor.now (c.sees.ensures.0 c.if-sees.true) (sym c.if-not-admits_empty_struct.ensures)) (c.no_fields.ensures (start_of c.args.start) (sym c.if-not-admits_empty_struct.ensures))

pub returns : goal.returns
returns g c =
    chosen_reads (alts.some_fields {h = (start_of c.args.start)}) c.args.self.now.depth c.args.cursor.now c.some_fields-2.new.cursor c.some_fields-2.result (links.chosen_some_fields (start_of c.args.start) c.args.self.now.depth c.args.cursor.now (inr (unlike c.sees.result c.if-sees.false c.sees.ensures.1))) (c.some_fields-2.ensures (start_of c.args.start))
