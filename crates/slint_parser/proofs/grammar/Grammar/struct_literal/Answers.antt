use Rattle.slint_lexer.specs.declared.tokens.Symbol.TheVariants as symbols
use Rattle.slint_parser.specs.Starts.{start_of}
use Rattle.slint_grammar.specs.Grammar.{Alt as alts}
use Rattle.slint_parser.proofs.Joining.{took_as, and_one, and_same, end_all, at_one, at_same, past_one, alt_error, alt_memory}
use Rattle.slint_parser.proofs.Links as links
use Rattle.slint_grammar.specs.Parts.{begins_struct}
use Rattle.slint_parser.proofs.grammar.Grammar.struct_literal.Goals as goal

pub returns-in_err-open : goal.returns-in_err-open
returns-in_err-open g c =
    alt_error (alts.struct {h = (start_of c.args.start)}) c.args.self.now.depth c.args.cursor.now c.symbol.new.self _ c.from_residual.result c.from_residual.ensures.1 (at_one (links.stuck_where (begins_struct (start_of c.args.start)) symbols.OpenBrace c.args.self.now.depth c.args.cursor.now _ c.requires.may c.in_err-open.ensures))

pub returns-in_err-fields : goal.returns-in_err-fields
returns-in_err-fields g c =
    alt_error (alts.struct {h = (start_of c.args.start)}) c.args.self.now.depth c.args.cursor.now c.struct_fields.new.cursor _ c.from_residual-in_err-fields.result c.from_residual-in_err-fields.ensures.1 (past_one (links.one_where (begins_struct (start_of c.args.start)) symbols.OpenBrace c.args.self.now.depth c.args.cursor.now c.symbol.new.self c.in_ok-open.open c.requires.may c.in_ok-open.ensures) (at_same c.in_err-fields.ensures))

pub returns-in_err-new : goal.returns-in_err-new
returns-in_err-new g c =
    alt_memory (alts.struct {h = (start_of c.args.start)}) c.args.self.now.depth c.args.cursor.now c.struct_fields.new.cursor c.from_residual-in_err-new.result c.from_residual-in_err-new.ensures.1

pub returns : goal.returns
returns g c =
    took_as (alts.struct {h = (start_of c.args.start)}) (and_one (links.one_where (begins_struct (start_of c.args.start)) symbols.OpenBrace c.args.self.now.depth c.args.cursor.now c.symbol.new.self c.in_ok-open.open c.requires.may c.in_ok-open.ensures) (and_same c.in_ok-fields.ensures (end_all c.args.self.now.depth c.struct_fields.new.cursor))) (links.struct_made _ c.in_ok-new.field-0 _ c.join.result c.join.ensures c.in_ok-new.ensures)
