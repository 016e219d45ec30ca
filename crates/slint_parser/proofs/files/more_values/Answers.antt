use Rattle.slint_lexer.specs.declared.tokens.Symbol.TheVariants as symbols
use Rattle.slint_parser.proofs.Listing.{another}
use Rattle.slint_parser.proofs.ChosenFiles.{begun_more, more_memory, more_stuck, more_done, no_value, next_value}
use Rattle.slint_parser.proofs.files.more_values.Goals as goal

pub returns-in_err-push : goal.returns-in_err-push
returns-in_err-push c = more_memory c.args.first c.args.cursor.now c.args.cursor.now c.from_residual.result c.from_residual.ensures.1

pub returns-in_err-end : goal.returns-in_err-end
returns-in_err-end c =
    more_stuck c.args.first c.args.cursor.now c.items.cursor c.behind_item.new.self c.behind_item.new.self c.items.all _ c.from_residual-in_err-end.result c.from_residual-in_err-end.ensures.1 c.items.invariant c.in_err-end.ensures

pub returns-in-Some : goal.returns-in-Some
returns-in-Some c = more_done c.args.first c.args.cursor.now c.items.cursor c.behind_item.new.self c.items.all c.in_ok-end.field-0 c.in-Some.end c.items.invariant c.in-Some.is c.in_ok-end.ensures

pub returns-in_err-name : goal.returns-in_err-name
returns-in_err-name c =
    no_value c.args.first c.args.cursor.now c.items.cursor c.behind_item.new.self c.name.new.self c.items.all _ c.from_residual-in_err-name.result c.from_residual-in_err-name.ensures.1 c.items.invariant
    (another symbols.CloseBrace 0 c.items.cursor c.behind_item.new.self c.in_ok-end.field-0 c.in_default.not-Some c.in_ok-end.ensures) c.in_err-name.ensures

pub items-init : goal.items-init
items-init c = begun_more c.args.first c.args.cursor.now c.new-all.result c.push.new.self c.new-all.ensures c.in_ok-push.ensures.ok

pub items-smaller : goal.items-smaller
items-smaller c =
    (next_value c.args.first c.args.cursor.now c.items.cursor c.behind_item.new.self c.name.new.self c.items.all c.push-in-items.new.self c.in_ok-name.field-0 c.items.invariant
    (another symbols.CloseBrace 0 c.items.cursor c.behind_item.new.self c.in_ok-end.field-0 c.in_default.not-Some c.in_ok-end.ensures) c.in_ok-name.ensures c.in_ok-push-2.ensures.ok).1

pub items-preserved : goal.items-preserved
items-preserved c =
    (next_value c.args.first c.args.cursor.now c.items.cursor c.behind_item.new.self c.name.new.self c.items.all c.push-in-items.new.self c.in_ok-name.field-0 c.items.invariant
    (another symbols.CloseBrace 0 c.items.cursor c.behind_item.new.self c.in_ok-end.field-0 c.in_default.not-Some c.in_ok-end.ensures) c.in_ok-name.ensures c.in_ok-push-2.ensures.ok).0
