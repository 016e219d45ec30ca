use Rattle.std.proofs.Common.{sym, ap, ◌∙◌}
use Rattle.slint_grammar.specs.Grammar.{AColour}
use Rattle.slint_parser.proofs.Joining.{one_error, stuck_one, took_one}
use Rattle.slint_parser.proofs.Signs.{colour_agrees}
use Rattle.slint_parser.proofs.cursor.Cursor.colour.Goals as goal

pub returns-in_err-token : goal.returns-in_err-token
returns-in_err-token c = one_error AColour c.args.depth c.args.self.now c.take.new.self _ c.from_residual.result c.from_residual.ensures.1
    (stuck_one AColour c.args.depth c.args.self.now c.shows-fits.result _ (colour_agrees c.args.self.now c.shows-fits.result c.shows-fits.ensures.0 c.shows-fits.ensures.1) c.in_err-token.ensures)

pub returns : goal.returns
returns c = took_one AColour c.args.depth c.args.self.now c.take.new.self c.in_ok-token.token.now _ c.in_ok-token.ensures.0
    (colour_agrees c.args.self.now c.shows-fits.result c.shows-fits.ensures.0 c.shows-fits.ensures.1 c.in_ok-token.token.now c.take.new.self c.in_ok-token.ensures.0 ∙ c.in_ok-token.ensures.1) c.in_ok-token.ensures.2 (ap (λ z. (z, c.in_ok-token.token.now.span)) (sym c.colour_in.ensures))
