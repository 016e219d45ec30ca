use Rattle.std.proofs.Common.{ℕ, ◌<◌, ◌≤◌, length, refl, arith}
use Rattle.slint_lexer.specs.declared.tokens.Symbol.TheVariants as symbols
use Rattle.slint_grammar.specs.Parts as parts
use Rattle.slint_parser.proofs.Joining.{part_error}
use Rattle.slint_parser.proofs.Listing.{none_closed, none_error, some_begun, still_open, last_item, behind_error, another, next_item}
use Rattle.slint_parser.proofs.ParameterForks.{parameter_error}
use Rattle.slint_parser.proofs.Shorter.{no_longer, taken_shorter}
use Rattle.slint_parser.proofs.callbacks.parameters.Goals as goal

below : {a b c : ℕ} → a < b → b ≤ c → a < c
below h k = omega arith

pub returns-in_err-end : goal.returns-in_err-end
returns-in_err-end c =
    part_error (parts.Listing parts.Parameters) c.args.depth c.args.cursor.now c.closes.new.self _ c.from_residual.result c.from_residual.ensures.1
    (none_error parts.Parameters symbols.CloseParen c.args.depth c.args.cursor.now _ refl c.in_err-end.ensures)

pub returns-in-Some : goal.returns-in-Some
returns-in-Some c =
    rw c.new-all.ensures (none_closed parts.Parameters symbols.CloseParen c.args.depth c.args.cursor.now c.closes.new.self c.in_ok-end.field-0 c.in-Some.end refl c.in-Some.is c.in_ok-end.ensures)

pub returns-in_err-parameter : goal.returns-in_err-parameter
returns-in_err-parameter c =
    part_error (parts.Listing parts.Parameters) c.args.depth c.args.cursor.now c.parameter.new.cursor _ c.from_residual-in_err-parameter.result c.from_residual-in_err-parameter.ensures.1
    (parameter_error c.args.depth c.args.cursor.now c.items.cursor c.items.all _ c.items.invariant.begun c.items.invariant.open_yet c.in_err-parameter.ensures)

pub returns-in_err-end-2 : goal.returns-in_err-end-2
returns-in_err-end-2 c =
    part_error (parts.Listing parts.Parameters) c.args.depth c.args.cursor.now c.behind_item.new.self _ c.from_residual-in_err-end-2.result c.from_residual-in_err-end-2.ensures.1
    (behind_error parts.Parameters symbols.CloseParen c.args.depth c.args.cursor.now c.items.cursor c.parameter.new.cursor c.behind_item.new.self c.items.all c.in_ok-parameter.field-0 _ refl
    c.items.invariant.begun c.items.invariant.open_yet c.in_ok-parameter.ensures c.in_err-end-2.ensures)

pub returns-in-Some-2 : goal.returns-in-Some-2
returns-in-Some-2 c =
    last_item parts.Parameters symbols.CloseParen c.args.depth c.args.cursor.now c.items.cursor c.parameter.new.cursor c.behind_item.new.self c.items.all c.push.new.self c.in_ok-parameter.field-0
    c.in_ok-end-2.field-0 c.in-Some-2.end refl c.items.invariant.begun c.items.invariant.open_yet c.in_ok-parameter.ensures c.in_ok-push.ensures.ok c.in-Some-2.is c.in_ok-end-2.ensures

pub items-init : goal.items-init
items-init c =
    rw c.new-all.ensures (record {
      open_yet = still_open symbols.CloseParen c.args.depth c.args.cursor.now c.closes.new.self c.in_ok-end.field-0 c.in_default.not-Some c.in_ok-end.ensures;
      begun = (some_begun parts.Parameters symbols.CloseParen c.args.depth c.args.cursor.now c.closes.new.self c.in_ok-end.field-0 refl c.in_default.not-Some c.in_ok-end.ensures);
    })

pub items-smaller : goal.items-smaller
items-smaller c =
    let behind = another symbols.CloseParen c.args.depth c.parameter.new.cursor c.behind_item.new.self c.in_ok-end-2.field-0 c.in_default-2.not-Some c.in_ok-end-2.ensures in
    let comma : length c.behind_item.new.self < length c.parameter.new.cursor = taken_shorter behind.2.1.x in
    let item : length c.parameter.new.cursor ≤ length c.items.cursor = no_longer c.in_ok-parameter.ensures.x in
    below comma item

pub items-preserved : goal.items-preserved
items-preserved c =
    let behind = another symbols.CloseParen c.args.depth c.parameter.new.cursor c.behind_item.new.self c.in_ok-end-2.field-0 c.in_default-2.not-Some c.in_ok-end-2.ensures in
    record {
      open_yet = behind.1;
      begun = next_item parts.Parameters symbols.CloseParen c.args.depth c.args.cursor.now c.items.cursor c.parameter.new.cursor c.behind_item.new.self c.items.all c.push.new.self
          c.in_ok-parameter.field-0 refl c.items.invariant.begun c.items.invariant.open_yet c.in_ok-parameter.ensures c.in_ok-push.ensures.ok behind;
    }
