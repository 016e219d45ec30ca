use Rattle.std.proofs.Common.{ap, ◌∙◌, [], ◌∷◌, ◌++◌}
use Rattle.slint_grammar.specs.Grammar.{Alt as alts}
use Rattle.slint_parser.proofs.Joining.{at_same, alt_error, alt_memory}
use Rattle.slint_parser.proofs.Links as links
use Rattle.slint_parser.proofs.grammar.Grammar.some_fields.Goals as goal

pub returns-in_err-field : goal.returns-in_err-field
returns-in_err-field g c h = alt_error (alts.some_fields {h = h}) c.args.self.now.depth c.args.cursor.now c.field_value.new.cursor _ c.from_residual.result c.from_residual.ensures.1 (at_same c.in_err-field.ensures)

pub returns-in_err-push : goal.returns-in_err-push
returns-in_err-push g c h = alt_memory (alts.some_fields {h = h}) c.args.self.now.depth c.args.cursor.now c.field_value.new.cursor c.from_residual-in_err-push.result c.from_residual-in_err-push.ensures.1

pub returns : goal.returns
returns g c h = links.some_fields_all h c.args.self.now.depth c.args.cursor.now c.field_value.new.cursor c.more_fields.new.cursor c.in_ok-field.field c.push.new.self c.more_fields.result c.in_ok-field.ensures (c.in_ok-push.ensures.ok ∙ ap (λ z. z ++ c.in_ok-field.field ∷ []) c.new-all.ensures) c.more_fields.ensures
