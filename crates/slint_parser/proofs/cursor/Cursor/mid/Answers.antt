use Rattle.std.proofs.Common.{sym, ◌∙◌}
use Rattle.slint_grammar.specs.Grammar.{AMid}
use Rattle.slint_grammar.specs.Derivations.{class_of}
use Rattle.slint_parser.proofs.Joining.{one_error, stuck_one, took_one, one_memory}
use Rattle.slint_parser.proofs.Signs.{mid_agrees, mid_is_piece}
use Rattle.slint_parser.proofs.cursor.Cursor.mid.Goals as goal

pub returns-in_err-token : goal.returns-in_err-token
returns-in_err-token c = one_error AMid c.args.depth c.args.self.now c.take.new.self _ c.from_residual.result c.from_residual.ensures.1
    (stuck_one AMid c.args.depth c.args.self.now c.shows-fits.result _ (mid_agrees c.args.self.now c.shows-fits.result c.shows-fits.ensures.0 c.shows-fits.ensures.1) c.in_err-token.ensures)

pub returns : goal.returns
returns c = took_one AMid c.args.depth c.args.self.now c.take.new.self c.in_ok-token.token.now _ c.in_ok-token.ensures.0
    (mid_agrees c.args.self.now c.shows-fits.result c.shows-fits.ensures.0 c.shows-fits.ensures.1 c.in_ok-token.token.now c.take.new.self c.in_ok-token.ensures.0 ∙ c.in_ok-token.ensures.1) c.in_ok-token.ensures.2 (sym c.in_ok-quoted.ensures)

pub returns-in_err-quoted : goal.returns-in_err-quoted
returns-in_err-quoted c = one_memory AMid c.args.depth c.args.self.now c.take.new.self c.from_residual-in_err-quoted.result c.from_residual-in_err-quoted.ensures.1

pub quoted-requires : goal.quoted-requires
quoted-requires c = mid_is_piece (class_of c.in_ok-token.token.now.kind) (mid_agrees c.args.self.now c.shows-fits.result c.shows-fits.ensures.0 c.shows-fits.ensures.1 c.in_ok-token.token.now c.take.new.self c.in_ok-token.ensures.0 ∙ c.in_ok-token.ensures.1)
