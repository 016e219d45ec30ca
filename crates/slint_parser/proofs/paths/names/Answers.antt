use Rattle.std.proofs.Common.{ℕ, ◌<◌, ◌≤◌, length, arith}
use Rattle.slint_grammar.specs.Parts as parts
use Rattle.slint_parser.proofs.Joining.{part_error}
use Rattle.slint_parser.proofs.Listing.{none_closed, none_error, some_begun, still_open, item_error, last_item, behind_error, another, next_item}
use Rattle.slint_parser.proofs.Shorter.{no_longer, taken_shorter}
use Rattle.slint_parser.proofs.paths.names.Goals as goal

below : {a b c : ℕ} → a < b → b ≤ c → a < c
below h k = omega arith

pub returns-in_err-end-clause-of_enum : goal.returns-in_err-end-clause-of_enum
returns-in_err-end-clause-of_enum c k =
    part_error (parts.Listing parts.EnumValues) c.args.depth c.args.cursor.now c.closes.new.self _ c.from_residual.result c.from_residual.ensures.1
    (none_error parts.EnumValues c.args.closer c.args.depth c.args.cursor.now _ k c.in_err-end.ensures)

pub returns-in-Some-clause-of_enum : goal.returns-in-Some-clause-of_enum
returns-in-Some-clause-of_enum c k =
    rw c.new-all.ensures (none_closed parts.EnumValues c.args.closer c.args.depth c.args.cursor.now c.closes.new.self c.in_ok-end.field-0 c.in-Some.end k c.in-Some.is c.in_ok-end.ensures)

pub returns-in_err-listed_name-clause-of_enum : goal.returns-in_err-listed_name-clause-of_enum
returns-in_err-listed_name-clause-of_enum c k =
    part_error (parts.Listing parts.EnumValues) c.args.depth c.args.cursor.now c.listed_name.new.cursor _ c.from_residual-in_err-listed_name.result c.from_residual-in_err-listed_name.ensures.1
    (item_error parts.EnumValues c.args.closer c.args.depth c.args.cursor.now c.items.cursor c.items.all _ k (c.items.invariant.of_enum k) c.items.invariant.open_yet c.in_err-listed_name.ensures)

pub returns-in_err-end-2-clause-of_enum : goal.returns-in_err-end-2-clause-of_enum
returns-in_err-end-2-clause-of_enum c k =
    part_error (parts.Listing parts.EnumValues) c.args.depth c.args.cursor.now c.behind_item.new.self _ c.from_residual-in_err-end-2.result c.from_residual-in_err-end-2.ensures.1
    (behind_error parts.EnumValues c.args.closer c.args.depth c.args.cursor.now c.items.cursor c.listed_name.new.cursor c.behind_item.new.self c.items.all c.in_ok-listed_name.field-0 _ k
    (c.items.invariant.of_enum k) c.items.invariant.open_yet c.in_ok-listed_name.ensures c.in_err-end-2.ensures)

pub returns-in-Some-2-clause-of_enum : goal.returns-in-Some-2-clause-of_enum
returns-in-Some-2-clause-of_enum c k =
    last_item parts.EnumValues c.args.closer c.args.depth c.args.cursor.now c.items.cursor c.listed_name.new.cursor c.behind_item.new.self c.items.all c.push.new.self c.in_ok-listed_name.field-0
    c.in_ok-end-2.field-0 c.in-Some-2.end k (c.items.invariant.of_enum k) c.items.invariant.open_yet c.in_ok-listed_name.ensures c.in_ok-push.ensures.ok c.in-Some-2.is c.in_ok-end-2.ensures

pub returns-in_err-end-clause-of_handler : goal.returns-in_err-end-clause-of_handler
returns-in_err-end-clause-of_handler c k =
    part_error (parts.Listing parts.HandlerParameters) c.args.depth c.args.cursor.now c.closes.new.self _ c.from_residual.result c.from_residual.ensures.1
    (none_error parts.HandlerParameters c.args.closer c.args.depth c.args.cursor.now _ k c.in_err-end.ensures)

pub returns-in-Some-clause-of_handler : goal.returns-in-Some-clause-of_handler
returns-in-Some-clause-of_handler c k =
    rw c.new-all.ensures (none_closed parts.HandlerParameters c.args.closer c.args.depth c.args.cursor.now c.closes.new.self c.in_ok-end.field-0 c.in-Some.end k c.in-Some.is c.in_ok-end.ensures)

pub returns-in_err-listed_name-clause-of_handler : goal.returns-in_err-listed_name-clause-of_handler
returns-in_err-listed_name-clause-of_handler c k =
    part_error (parts.Listing parts.HandlerParameters) c.args.depth c.args.cursor.now c.listed_name.new.cursor _ c.from_residual-in_err-listed_name.result c.from_residual-in_err-listed_name.ensures.1
    (item_error parts.HandlerParameters c.args.closer c.args.depth c.args.cursor.now c.items.cursor c.items.all _ k (c.items.invariant.of_handler k) c.items.invariant.open_yet c.in_err-listed_name.ensures)

pub returns-in_err-end-2-clause-of_handler : goal.returns-in_err-end-2-clause-of_handler
returns-in_err-end-2-clause-of_handler c k =
    part_error (parts.Listing parts.HandlerParameters) c.args.depth c.args.cursor.now c.behind_item.new.self _ c.from_residual-in_err-end-2.result c.from_residual-in_err-end-2.ensures.1
    (behind_error parts.HandlerParameters c.args.closer c.args.depth c.args.cursor.now c.items.cursor c.listed_name.new.cursor c.behind_item.new.self c.items.all c.in_ok-listed_name.field-0 _ k
    (c.items.invariant.of_handler k) c.items.invariant.open_yet c.in_ok-listed_name.ensures c.in_err-end-2.ensures)

pub returns-in-Some-2-clause-of_handler : goal.returns-in-Some-2-clause-of_handler
returns-in-Some-2-clause-of_handler c k =
    last_item parts.HandlerParameters c.args.closer c.args.depth c.args.cursor.now c.items.cursor c.listed_name.new.cursor c.behind_item.new.self c.items.all c.push.new.self c.in_ok-listed_name.field-0
    c.in_ok-end-2.field-0 c.in-Some-2.end k (c.items.invariant.of_handler k) c.items.invariant.open_yet c.in_ok-listed_name.ensures c.in_ok-push.ensures.ok c.in-Some-2.is c.in_ok-end-2.ensures

pub items-init : goal.items-init
items-init c =
    rw c.new-all.ensures (record {
      open_yet = still_open c.args.closer c.args.depth c.args.cursor.now c.closes.new.self c.in_ok-end.field-0 c.in_default.not-Some c.in_ok-end.ensures;
      of_enum = λ k. (some_begun parts.EnumValues c.args.closer c.args.depth c.args.cursor.now c.closes.new.self c.in_ok-end.field-0 k c.in_default.not-Some c.in_ok-end.ensures);
      of_handler = λ k. (some_begun parts.HandlerParameters c.args.closer c.args.depth c.args.cursor.now c.closes.new.self c.in_ok-end.field-0 k c.in_default.not-Some c.in_ok-end.ensures);
    })

pub items-smaller : goal.items-smaller
items-smaller c =
    let behind = another c.args.closer c.args.depth c.listed_name.new.cursor c.behind_item.new.self c.in_ok-end-2.field-0 c.in_default-2.not-Some c.in_ok-end-2.ensures in
    let comma : length c.behind_item.new.self < length c.listed_name.new.cursor = taken_shorter behind.2.1.x in
    let item : length c.listed_name.new.cursor ≤ length c.items.cursor = no_longer c.in_ok-listed_name.ensures.x in
    below comma item

pub items-preserved : goal.items-preserved
items-preserved c =
    let behind = another c.args.closer c.args.depth c.listed_name.new.cursor c.behind_item.new.self c.in_ok-end-2.field-0 c.in_default-2.not-Some c.in_ok-end-2.ensures in
    record {
      open_yet = behind.1;
      of_enum = λ k. next_item parts.EnumValues c.args.closer c.args.depth c.args.cursor.now c.items.cursor c.listed_name.new.cursor c.behind_item.new.self c.items.all c.push.new.self
          c.in_ok-listed_name.field-0 k (c.items.invariant.of_enum k) c.items.invariant.open_yet c.in_ok-listed_name.ensures c.in_ok-push.ensures.ok behind;
      of_handler = λ k. next_item parts.HandlerParameters c.args.closer c.args.depth c.args.cursor.now c.items.cursor c.listed_name.new.cursor c.behind_item.new.self c.items.all c.push.new.self
          c.in_ok-listed_name.field-0 k (c.items.invariant.of_handler k) c.items.invariant.open_yet c.in_ok-listed_name.ensures c.in_ok-push.ensures.ok behind;
    }
