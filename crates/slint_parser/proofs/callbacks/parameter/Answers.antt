use Rattle.std.proofs.Common.{sym, ◌∙◌}
use Rattle.slint_parser.proofs.Among.{unlike}
use Rattle.slint_parser.proofs.callbacks.parameter.Goals as goal
use Rattle.slint_parser.proofs.ParameterForks as forks

pub returns-then-not-shows_name : goal.returns-then-not-shows_name
returns-then-not-shows_name c =
    forks.no_name_reads c.args.depth c.args.cursor.now c.nameless_parameter.new.cursor c.nameless_parameter.result (sym c.shows_name.ensures ∙ c.if-not-shows_name.true) c.nameless_parameter.ensures

pub returns-then-shows_ahead : goal.returns-then-shows_ahead
returns-then-shows_ahead c =
    forks.named_reads c.args.depth c.args.cursor.now c.named_parameter.new.cursor c.named_parameter.result (sym c.shows_name.ensures ∙ c.if-not-shows_name.false) (c.shows_ahead.ensures.0 c.if-shows_ahead.true) c.named_parameter.ensures

pub returns-then-depth-eq-DEEPEST : goal.returns-then-depth-eq-DEEPEST
returns-then-depth-eq-DEEPEST c =
    forks.limit_reads c.args.depth c.args.cursor.now c.args.cursor.now c.behind_type.result c.if-depth-eq-DEEPEST.true (sym c.shows_name.ensures ∙ c.if-not-shows_name.false)
    (unlike c.shows_ahead.result c.if-shows_ahead.false c.shows_ahead.ensures.1) c.behind_type.ensures

pub returns : goal.returns
returns c =
    forks.type_reads c.args.depth c.args.cursor.now c.nameless_parameter-2.new.cursor c.nameless_parameter-2.result (sym c.shows_name.ensures ∙ c.if-not-shows_name.false)
    (unlike c.shows_ahead.result c.if-shows_ahead.false c.shows_ahead.ensures.1) c.if-depth-eq-DEEPEST.false c.nameless_parameter-2.ensures
