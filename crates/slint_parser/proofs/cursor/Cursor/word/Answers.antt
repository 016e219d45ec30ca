use Rattle.std.proofs.Common.{refl, ◌∙◌}
use Rattle.slint_grammar.specs.Grammar.{TheWord}
use Rattle.slint_parser.proofs.Joining.{one_error, stuck_one, took_one}
use Rattle.slint_parser.proofs.Signs.{word_agrees}
use Rattle.slint_parser.proofs.cursor.Cursor.word.Goals as goal

pub returns-in_err-take : goal.returns-in_err-take
returns-in_err-take c = one_error (TheWord c.args.word) c.args.depth c.args.self.now c.take.new.self _ c.from_residual.result c.from_residual.ensures.1
    (stuck_one (TheWord c.args.word) c.args.depth c.args.self.now c.shows-fits.result _ (word_agrees c.args.word c.args.self.now c.shows-fits.result c.shows-fits.ensures.0 c.shows-fits.ensures.1) c.in_err-take.ensures)

pub returns : goal.returns
returns c = took_one (TheWord c.args.word) c.args.depth c.args.self.now c.take.new.self c.in_ok-take.field-0.now c.in_ok-take.field-0.now.span c.in_ok-take.ensures.0
    (word_agrees c.args.word c.args.self.now c.shows-fits.result c.shows-fits.ensures.0 c.shows-fits.ensures.1 c.in_ok-take.field-0.now c.take.new.self c.in_ok-take.ensures.0 ∙ c.in_ok-take.ensures.1) c.in_ok-take.ensures.2 refl
