use Rattle.std.proofs.Common.{sym, ◌∙◌}
use Rattle.slint_grammar.specs.Grammar.{AText}
use Rattle.slint_grammar.specs.Derivations.{class_of}
use Rattle.slint_parser.proofs.Joining.{one_error, stuck_one, took_one, one_memory}
use Rattle.slint_parser.proofs.Signs.{text_agrees, text_is_piece}
use Rattle.slint_parser.proofs.cursor.Cursor.text.Goals as goal

pub returns-in_err-token : goal.returns-in_err-token
returns-in_err-token c = one_error AText c.args.depth c.args.self.now c.take.new.self _ c.from_residual.result c.from_residual.ensures.1
    (stuck_one AText c.args.depth c.args.self.now c.shows-fits.result _ (text_agrees c.args.self.now c.shows-fits.result c.shows-fits.ensures.0 c.shows-fits.ensures.1) c.in_err-token.ensures)

pub returns : goal.returns
returns c = took_one AText c.args.depth c.args.self.now c.take.new.self c.in_ok-token.token.now _ c.in_ok-token.ensures.0
    (text_agrees c.args.self.now c.shows-fits.result c.shows-fits.ensures.0 c.shows-fits.ensures.1 c.in_ok-token.token.now c.take.new.self c.in_ok-token.ensures.0 ∙ c.in_ok-token.ensures.1) c.in_ok-token.ensures.2 (sym c.in_ok-quoted.ensures)

pub returns-in_err-quoted : goal.returns-in_err-quoted
returns-in_err-quoted c = one_memory AText c.args.depth c.args.self.now c.take.new.self c.from_residual-in_err-quoted.result c.from_residual-in_err-quoted.ensures.1

pub quoted-requires : goal.quoted-requires
quoted-requires c = text_is_piece (class_of c.in_ok-token.token.now.kind) (text_agrees c.args.self.now c.shows-fits.result c.shows-fits.ensures.0 c.shows-fits.ensures.1 c.in_ok-token.token.now c.take.new.self c.in_ok-token.ensures.0 ∙ c.in_ok-token.ensures.1)
