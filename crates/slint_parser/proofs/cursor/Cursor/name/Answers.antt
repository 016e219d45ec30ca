use Rattle.std.proofs.Common.{sym, ◌∙◌}
use Rattle.slint_grammar.specs.Grammar.{AnyName}
use Rattle.slint_parser.proofs.Joining.{one_error, stuck_one, took_one, one_memory}
use Rattle.slint_parser.proofs.Signs.{name_agrees}
use Rattle.slint_parser.proofs.cursor.Cursor.name.Goals as goal

pub returns-in_err-token : goal.returns-in_err-token
returns-in_err-token c = one_error AnyName c.args.depth c.args.self.now c.take.new.self _ c.from_residual.result c.from_residual.ensures.1
    (stuck_one AnyName c.args.depth c.args.self.now c.shows_name-fits.result _ (name_agrees c.args.self.now c.shows_name-fits.result c.shows_name-fits.ensures) c.in_err-token.ensures)

pub returns : goal.returns
returns c = took_one AnyName c.args.depth c.args.self.now c.take.new.self c.in_ok-token.token.now _ c.in_ok-token.ensures.0
    (name_agrees c.args.self.now c.shows_name-fits.result c.shows_name-fits.ensures c.in_ok-token.token.now c.take.new.self c.in_ok-token.ensures.0 ∙ c.in_ok-token.ensures.1) c.in_ok-token.ensures.2 (sym c.in_ok-ident.ensures)

pub returns-in_err-ident : goal.returns-in_err-ident
returns-in_err-ident c = one_memory AnyName c.args.depth c.args.self.now c.take.new.self c.from_residual-in_err-ident.result c.from_residual-in_err-ident.ensures.1

pub ident-requires : goal.ident-requires
ident-requires c = (name_agrees c.args.self.now c.shows_name-fits.result c.shows_name-fits.ensures c.in_ok-token.token.now c.take.new.self c.in_ok-token.ensures.0 ∙ c.in_ok-token.ensures.1)
