use Rattle.std.proofs.Common.{arith}
use Rattle.slint_lexer.specs.declared.tokens.Symbol.TheVariants as symbols
use Rattle.slint_parser.proofs.Shorter.{taken_shorter, no_longer}
use Rattle.slint_parser.proofs.Links as links
use Rattle.slint_parser.proofs.Listing.{another}
use Rattle.slint_parser.proofs.grammar.Grammar.more_fields.Goals as goal

pub returns-in_err-end : goal.returns-in_err-end
returns-in_err-end g c =
    links.field_values_error c.args.self.now.depth c.args.all c.args.cursor.now c.behind_item.new.self _ c.from_residual.result c.from_residual.ensures.1 (links.field_values_no_sign c.args.self.now.depth c.args.cursor.now c.fields.cursor c.args.all c.fields.all _ c.fields.invariant c.in_err-end.ensures)

pub returns-in-Some : goal.returns-in-Some
returns-in-Some g c =
    links.field_values_end c.args.self.now.depth c.args.cursor.now c.fields.cursor c.behind_item.new.self c.args.all c.fields.all c.in_ok-end.field-0 c.in-Some.end c.fields.invariant c.in-Some.is c.in_ok-end.ensures

pub returns-in_err-field : goal.returns-in_err-field
returns-in_err-field g c =
    links.field_values_error c.args.self.now.depth c.args.all c.args.cursor.now c.field_value.new.cursor _ c.from_residual-in_err-field.result c.from_residual-in_err-field.ensures.1 (links.field_values_no_item c.args.self.now.depth c.args.cursor.now c.fields.cursor c.behind_item.new.self c.args.all c.fields.all c.in_ok-end.field-0 _ c.fields.invariant c.in_default.not-Some c.in_ok-end.ensures c.in_err-field.ensures)

pub returns-in_err-push : goal.returns-in_err-push
returns-in_err-push g c =
    links.field_values_memory c.args.self.now.depth c.args.all c.args.cursor.now c.field_value.new.cursor c.from_residual-in_err-push.result c.from_residual-in_err-push.ensures.1

pub fields-init : goal.fields-init
fields-init g c =
    links.field_values_begin c.args.self.now.depth c.args.cursor.now c.args.all

pub fields-preserved : goal.fields-preserved
fields-preserved g c =
    links.field_values_next c.args.self.now.depth c.args.cursor.now c.fields.cursor c.behind_item.new.self c.field_value.new.cursor c.args.all c.fields.all c.push.new.self c.in_ok-field.field c.in_ok-end.field-0 c.fields.invariant c.in_default.not-Some c.in_ok-end.ensures c.in_ok-field.ensures c.in_ok-push.ensures.ok

pub fields-smaller : goal.fields-smaller
fields-smaller g c =
    let b = another symbols.CloseBrace c.args.self.now.depth c.fields.cursor c.behind_item.new.self c.in_ok-end.field-0 c.in_default.not-Some c.in_ok-end.ensures in omega (arith, taken_shorter b.2.1.x, no_longer c.in_ok-field.ensures.x)
