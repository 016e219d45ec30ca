use Rattle.slint_grammar.specs.Grammar.{Alt as alts}
use Rattle.slint_parser.proofs.Joining.{at_one, at_same, at_deep, past_one, past_deep, alt_error, alt_memory}
use Rattle.slint_parser.proofs.Links as links
use Rattle.slint_parser.proofs.grammar.Grammar.template.Goals as goal

pub returns-in_err-head : goal.returns-in_err-head
returns-in_err-head g c h = alt_error (alts.template {h = h}) c.args.self.now.depth c.args.cursor.now c.head.new.self _ c.from_residual.result c.from_residual.ensures.1 (at_one c.in_err-head.ensures)

pub returns-in_err-first : goal.returns-in_err-first
returns-in_err-first g c h = alt_error (alts.template {h = h}) c.args.self.now.depth c.args.cursor.now c.expr.new.cursor _ c.from_residual-in_err-first.result c.from_residual-in_err-first.ensures.1 (past_one c.in_ok-head.ensures (at_deep c.args.self.now.depth c.in_err-first.ensures))

pub returns-in_err-holes : goal.returns-in_err-holes
returns-in_err-holes g c h = alt_error (alts.template {h = h}) c.args.self.now.depth c.args.cursor.now c.holes.new.cursor _ c.from_residual-in_err-holes.result c.from_residual-in_err-holes.ensures.1 (past_one c.in_ok-head.ensures (past_deep c.args.self.now.depth c.in_ok-first.ensures (at_same c.in_err-holes.ensures)))

pub returns-in_err-new : goal.returns-in_err-new
returns-in_err-new g c h = alt_memory (alts.template {h = h}) c.args.self.now.depth c.args.cursor.now c.holes.new.cursor c.from_residual-in_err-new.result c.from_residual-in_err-new.ensures.1

pub returns : goal.returns
returns g c h = links.template_all h c.args.self.now.depth c.args.cursor.now c.head.new.self c.expr.new.cursor c.holes.new.cursor c.in_ok-head.head c.in_ok-first.first _ _ c.join-span.result c.in_ok-new.field-0 c.in_ok-head.ensures c.in_ok-first.ensures c.in_ok-holes.ensures c.join-span.ensures c.in_ok-new.ensures
