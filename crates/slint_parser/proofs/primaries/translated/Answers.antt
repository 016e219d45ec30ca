use Rattle.slint_grammar.specs.Parts as p
use Rattle.slint_grammar.specs.Grammar.{Alt as alts}
use Rattle.slint_parser.proofs.Among.{unlike}
use Rattle.slint_parser.proofs.Joining.{took_by, and_one, end_all, at_one, chosen_took, chosen_stuck, chosen_reads, part_error}
use Rattle.slint_parser.proofs.Firsts as firsts
use Rattle.slint_parser.proofs.primaries.translated.Goals as goal

pub returns-then-shows_ahead : goal.returns-then-shows_ahead
returns-then-shows_ahead c =
    chosen_reads alts.tr_context c.args.depth c.args.cursor.now c.in_context.new.cursor c.in_context.result (firsts.chosen_tr_context c.args.depth c.args.cursor.now (c.shows_ahead.ensures.0 c.if-shows_ahead.true)) c.in_context.ensures

pub returns-in_err-text : goal.returns-in_err-text
returns-in_err-text c =
    part_error p.TrText c.args.depth c.args.cursor.now c.text.new.self _ c.from_residual.result c.from_residual.ensures.1 (chosen_stuck (firsts.chosen_tr_text c.args.depth c.args.cursor.now (unlike c.shows_ahead.result c.if-shows_ahead.false c.shows_ahead.ensures.1)) (at_one c.in_err-text.ensures))

pub returns : goal.returns
returns c =
    chosen_took (firsts.chosen_tr_text c.args.depth c.args.cursor.now (unlike c.shows_ahead.result c.if-shows_ahead.false c.shows_ahead.ensures.1)) (took_by alts.tr_text (and_one c.in_ok-text.ensures (end_all c.args.depth c.text.new.self)))
