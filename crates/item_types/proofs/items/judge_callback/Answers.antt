use Rattle.item_types.specs.Items.{link}
use Rattle.item_types.proofs.Inside.{callback_at, callback_told, no_item, some_link}
use Rattle.item_types.proofs.items.judge_callback.Goals as goal

pub returns-in-Link : goal.returns-in-Link
returns-in-Link c = callback_at c.args.scope.now c.args.callback.now c.some.result c.in-Link.is
    (some_link (link c.args.scope.now c.args.callback.now.name c.in-Link.path c.args.callback.now.span) c.judge_link.result c.judge_link.ensures c.some.result c.some.ensures)

pub returns-in-Signature : goal.returns-in-Signature
returns-in-Signature c = callback_told c.args.scope.now c.args.callback.now c.in-Signature.is no_item
