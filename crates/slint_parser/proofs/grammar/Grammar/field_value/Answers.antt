use Rattle.std.proofs.Common.{sym, ap}
use Rattle.slint_grammar.specs.Parts as p
use Rattle.slint_grammar.specs.Grammar.{Alt as alts}
use Rattle.slint_parser.proofs.Joining.{took_as, and_one, and_deep, end_all, at_one, at_deep, past_one, chosen_took, chosen_stuck, part_error}
use Rattle.slint_parser.proofs.Links as links
use Rattle.slint_grammar.specs.Trees.{field_value}
use Rattle.slint_parser.proofs.grammar.Grammar.field_value.Goals as goal

pub returns-in_err-name : goal.returns-in_err-name
returns-in_err-name g c =
    part_error p.FieldValue c.args.self.now.depth c.args.cursor.now c.name.new.self _ c.from_residual.result c.from_residual.ensures.1 (chosen_stuck (links.chosen_field_value c.args.self.now.depth c.args.cursor.now) (at_one c.in_err-name.ensures))

pub returns-in_err-symbol : goal.returns-in_err-symbol
returns-in_err-symbol g c =
    part_error p.FieldValue c.args.self.now.depth c.args.cursor.now c.symbol.new.self _ c.from_residual-in_err-symbol.result c.from_residual-in_err-symbol.ensures.1 (chosen_stuck (links.chosen_field_value c.args.self.now.depth c.args.cursor.now) (past_one c.in_ok-name.ensures (at_one c.in_err-symbol.ensures)))

pub returns-in_err-value : goal.returns-in_err-value
returns-in_err-value g c =
    part_error p.FieldValue c.args.self.now.depth c.args.cursor.now c.expr.new.cursor _ c.from_residual-in_err-value.result c.from_residual-in_err-value.ensures.1 (chosen_stuck (links.chosen_field_value c.args.self.now.depth c.args.cursor.now) (past_one c.in_ok-name.ensures (past_one c.in_ok-symbol.ensures (at_deep c.args.self.now.depth c.in_err-value.ensures))))

pub returns : goal.returns
returns g c =
    chosen_took (links.chosen_field_value c.args.self.now.depth c.args.cursor.now) (took_as alts.field_value (and_one c.in_ok-name.ensures (and_one c.in_ok-symbol.ensures (and_deep c.args.self.now.depth c.in_ok-value.ensures (end_all c.args.self.now.depth c.expr.new.cursor)))) (ap (λ z. field_value c.in_ok-name.name z) (sym c.into_inner.ensures)))
