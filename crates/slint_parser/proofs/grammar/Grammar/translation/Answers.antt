use Rattle.std.proofs.Common.{refl}
use Rattle.slint_grammar.specs.Grammar.{Alt as alts}
use Rattle.slint_parser.proofs.Joining.{at_one, at_same, past_one, past_same, alt_error, alt_memory}
use Rattle.slint_parser.proofs.Firsts as firsts
use Rattle.slint_parser.proofs.grammar.Grammar.translation.Goals as goal

pub returns-in_err-at : goal.returns-in_err-at
returns-in_err-at g c h = alt_error (alts.tr {h = h}) c.args.self.now.depth c.args.cursor.now c.symbol.new.self _ c.from_residual.result c.from_residual.ensures.1 (at_one c.in_err-at.ensures)

pub returns-in_err-word : goal.returns-in_err-word
returns-in_err-word g c h = alt_error (alts.tr {h = h}) c.args.self.now.depth c.args.cursor.now c.word.new.self _ c.from_residual-in_err-word.result c.from_residual-in_err-word.ensures.1 (past_one c.in_ok-at.ensures (at_one c.in_err-word.ensures))

pub returns-in_err-symbol : goal.returns-in_err-symbol
returns-in_err-symbol g c h = alt_error (alts.tr {h = h}) c.args.self.now.depth c.args.cursor.now c.symbol-2.new.self _ c.from_residual-in_err-symbol.result c.from_residual-in_err-symbol.ensures.1 (past_one c.in_ok-at.ensures (past_one c.in_ok-word.ensures (at_one c.in_err-symbol.ensures)))

pub returns-in_err-context : goal.returns-in_err-context
returns-in_err-context g c h = alt_error (alts.tr {h = h}) c.args.self.now.depth c.args.cursor.now c.translated.new.cursor _ c.from_residual-in_err-context.result c.from_residual-in_err-context.ensures.1 (past_one c.in_ok-at.ensures (past_one c.in_ok-word.ensures (past_one c.in_ok-symbol.ensures (at_same c.in_err-context.ensures))))

pub returns-in_err-arguments : goal.returns-in_err-arguments
returns-in_err-arguments g c h = alt_error (alts.tr {h = h}) c.args.self.now.depth c.args.cursor.now c.more.new.cursor _ c.from_residual-in_err-arguments.result c.from_residual-in_err-arguments.ensures.1 (past_one c.in_ok-at.ensures (past_one c.in_ok-word.ensures (past_one c.in_ok-symbol.ensures (past_same c.in_ok-context.ensures (at_same (c.in_err-arguments.ensures.arguments refl))))))

pub returns-in_err-new : goal.returns-in_err-new
returns-in_err-new g c h = alt_memory (alts.tr {h = h}) c.args.self.now.depth c.args.cursor.now c.more.new.cursor c.from_residual-in_err-new.result c.from_residual-in_err-new.ensures.1

pub returns : goal.returns
returns g c h = firsts.translation_all h c.args.self.now.depth c.args.cursor.now c.symbol.new.self c.word.new.self c.symbol-2.new.self c.translated.new.cursor c.more.new.cursor c.in_ok-at.at c.in_ok-word.field-0 c.in_ok-symbol.field-0 _ _ _ _ _ c.join.result c.in_ok-new.field-0 c.in_ok-at.ensures c.in_ok-word.ensures c.in_ok-symbol.ensures c.in_ok-context.ensures c.new.ensures (c.in_ok-arguments.ensures.arguments refl) c.join.ensures c.in_ok-new.ensures
