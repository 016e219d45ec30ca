use Rattle.std.proofs.Common.{ℕ, ◌<◌, ◌≤◌, length, refl, arith}
use Rattle.slint_lexer.specs.declared.tokens.Symbol.TheVariants as symbols
use Rattle.slint_grammar.specs.Parts as parts
use Rattle.slint_parser.proofs.Joining.{part_error}
use Rattle.slint_parser.proofs.Listing.{none_closed, none_error, some_begun, still_open, item_error, last_item, behind_error, another, next_item}
use Rattle.slint_parser.proofs.Shorter.{no_longer, taken_shorter}
use Rattle.slint_parser.proofs.files.aliases.Goals as goal

below : {a b c : ℕ} → a < b → b ≤ c → a < c
below h k = omega arith

pub returns-in_err-end : goal.returns-in_err-end
returns-in_err-end c =
    part_error (parts.Listing parts.Aliases) 0 c.args.cursor.now c.closes.new.self _ c.from_residual.result c.from_residual.ensures.1 (none_error parts.Aliases symbols.CloseBrace 0 c.args.cursor.now _ refl c.in_err-end.ensures)

pub returns-in-Some : goal.returns-in-Some
returns-in-Some c = rw c.new-all.ensures (none_closed parts.Aliases symbols.CloseBrace 0 c.args.cursor.now c.closes.new.self c.in_ok-end.field-0 c.in-Some.end refl c.in-Some.is c.in_ok-end.ensures)

pub returns-in_err-alias : goal.returns-in_err-alias
returns-in_err-alias c =
    part_error (parts.Listing parts.Aliases) 0 c.args.cursor.now c.alias.new.cursor _ c.from_residual-in_err-alias.result c.from_residual-in_err-alias.ensures.1
    (item_error parts.Aliases symbols.CloseBrace 0 c.args.cursor.now c.items.cursor c.items.all _ refl c.items.invariant.so_far c.items.invariant.open_yet c.in_err-alias.ensures)

pub returns-in_err-end-2 : goal.returns-in_err-end-2
returns-in_err-end-2 c =
    part_error (parts.Listing parts.Aliases) 0 c.args.cursor.now c.behind_item.new.self _ c.from_residual-in_err-end-2.result c.from_residual-in_err-end-2.ensures.1
    (behind_error parts.Aliases symbols.CloseBrace 0 c.args.cursor.now c.items.cursor c.alias.new.cursor c.behind_item.new.self c.items.all c.in_ok-alias.field-0 _ refl
    c.items.invariant.so_far c.items.invariant.open_yet c.in_ok-alias.ensures c.in_err-end-2.ensures)

pub returns-in-Some-2 : goal.returns-in-Some-2
returns-in-Some-2 c =
    last_item parts.Aliases symbols.CloseBrace 0 c.args.cursor.now c.items.cursor c.alias.new.cursor c.behind_item.new.self c.items.all c.push.new.self c.in_ok-alias.field-0
    c.in_ok-end-2.field-0 c.in-Some-2.end refl c.items.invariant.so_far c.items.invariant.open_yet c.in_ok-alias.ensures c.in_ok-push.ensures.ok c.in-Some-2.is c.in_ok-end-2.ensures

pub items-init : goal.items-init
items-init c =
    rw c.new-all.ensures (record {
      open_yet = still_open symbols.CloseBrace 0 c.args.cursor.now c.closes.new.self c.in_ok-end.field-0 c.in_default.not-Some c.in_ok-end.ensures;
      so_far = some_begun parts.Aliases symbols.CloseBrace 0 c.args.cursor.now c.closes.new.self c.in_ok-end.field-0 refl c.in_default.not-Some c.in_ok-end.ensures;
    })

pub items-smaller : goal.items-smaller
items-smaller c =
    let behind = another symbols.CloseBrace 0 c.alias.new.cursor c.behind_item.new.self c.in_ok-end-2.field-0 c.in_default-2.not-Some c.in_ok-end-2.ensures in
    let comma : length c.behind_item.new.self < length c.alias.new.cursor = taken_shorter behind.2.1.x in
    let item : length c.alias.new.cursor ≤ length c.items.cursor = no_longer c.in_ok-alias.ensures.x in
    below comma item

pub items-preserved : goal.items-preserved
items-preserved c =
    let behind = another symbols.CloseBrace 0 c.alias.new.cursor c.behind_item.new.self c.in_ok-end-2.field-0 c.in_default-2.not-Some c.in_ok-end-2.ensures in
    record {
      open_yet = behind.1;
      so_far = next_item parts.Aliases symbols.CloseBrace 0 c.args.cursor.now c.items.cursor c.alias.new.cursor c.behind_item.new.self c.items.all c.push.new.self
          c.in_ok-alias.field-0 refl c.items.invariant.so_far c.items.invariant.open_yet c.in_ok-alias.ensures c.in_ok-push.ensures.ok behind;
    }
