use Rattle.std.proofs.Common.{sym}
use Rattle.syntax_tree.specs.declared.items.Item.{out-Item}
use Rattle.name_lookup.specs.Leads.{body_scope}
use Rattle.item_types.specs.Items.{item_judging}
use Rattle.item_types.proofs.Inside.{item_inside}
use Rattle.item_types.proofs.Telling.{came, told_at, told_first}
use Rattle.item_types.proofs.judging.type_item.Goals as goal

pub returns-in-Ok-Ok : goal.returns-in-Ok-Ok
returns-in-Ok-Ok c =
    let j = item_judging (body_scope c.args.names.now c.args.site c.args.rows.now) (out-Item c.args.item.now) in
    came j (item_inside (out-Item c.args.item.now) c.new-scope.ensures (told_at (item_judging c.new-scope.result (out-Item c.args.item.now)) c.in-Ok-Ok.field-0-is c.in-Ok-Ok.ensures))

pub returns-in-Ok-Err : goal.returns-in-Ok-Err
returns-in-Ok-Err c =
    let j = item_judging (body_scope c.args.names.now c.args.site c.args.rows.now) (out-Item c.args.item.now) in
    told_first j (item_inside (out-Item c.args.item.now) c.new-scope.ensures (told_at (item_judging c.new-scope.result (out-Item c.args.item.now)) c.in-Ok-Err.field-0-is c.in-Ok-Err.ensures))
