use Rattle.std.proofs.Common.{refl}
use Rattle.slint_grammar.specs.Grammar.{Alt as alts}
use Rattle.slint_parser.proofs.Joining.{took_as, and_one, and_same, end_all, at_one, at_same, past_one, alt_error, alt_memory}
use Rattle.slint_parser.proofs.Links as links
use Rattle.slint_parser.proofs.grammar.Grammar.array.Goals as goal

pub returns-in_err-open : goal.returns-in_err-open
returns-in_err-open g c h =
    alt_error (alts.array {h = h}) c.args.self.now.depth c.args.cursor.now c.symbol.new.self _ c.from_residual.result c.from_residual.ensures.1 (at_one c.in_err-open.ensures)

pub returns-in_err-items : goal.returns-in_err-items
returns-in_err-items g c h =
    alt_error (alts.array {h = h}) c.args.self.now.depth c.args.cursor.now c.listed.new.cursor _ c.from_residual-in_err-items.result c.from_residual-in_err-items.ensures.1 (past_one c.in_ok-open.ensures (at_same (c.in_err-items.ensures.elements refl)))

pub returns-in_err-new : goal.returns-in_err-new
returns-in_err-new g c h =
    alt_memory (alts.array {h = h}) c.args.self.now.depth c.args.cursor.now c.listed.new.cursor c.from_residual-in_err-new.result c.from_residual-in_err-new.ensures.1

pub returns : goal.returns
returns g c h =
    took_as (alts.array {h = h}) (and_one c.in_ok-open.ensures (and_same (c.in_ok-items.ensures.elements refl) (end_all c.args.self.now.depth c.listed.new.cursor))) (links.array_made _ c.in_ok-new.field-0 _ c.join.result c.join.ensures c.in_ok-new.ensures)
