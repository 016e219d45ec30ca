use Rattle.item_types.specs.Items.{binding_judging, link}
use Rattle.item_types.proofs.Inside.{no_item, property_at, property_told, some_item, some_link}
use Rattle.item_types.proofs.Sounds.{binding_sound}
use Rattle.item_types.proofs.items.judge_property.Goals as goal

pub returns-in-None : goal.returns-in-None
returns-in-None c = property_told c.args.scope.now c.args.property.now c.in-None.is no_item

pub returns-in-Value : goal.returns-in-Value
returns-in-Value c = property_at c.args.scope.now c.args.property.now c.some.result c.in-Value.is
    (some_item (binding_judging c.args.scope.now c.args.property.now.name c.in-Value.value) (binding_sound c.args.scope.now c.args.property.now.name c.in-Value.value) c.judge_binding.result c.judge_binding.ensures c.some.result c.some.ensures)

pub returns-in-Link : goal.returns-in-Link
returns-in-Link c = property_at c.args.scope.now c.args.property.now c.some-in-Link.result c.in-Link.is
    (some_link (link c.args.scope.now c.args.property.now.name c.in-Link.path c.args.property.now.span) c.judge_link.result c.judge_link.ensures c.some-in-Link.result c.some-in-Link.ensures)
