use Rattle.std.proofs.Common.{ap, ◌∙◌}
use Rattle.syntax_tree.specs.declared.items.Item.{out-Item}
use Rattle.syntax_tree.specs.declared.items.Item.TheVariants as items
use Rattle.item_types.specs.Items.{binding_judging, changed_judging, function_judging, handler_judging, link, states_judging}
use Rattle.item_types.proofs.Inside.{item_at, item_told, no_item, some_item, some_link}
use Rattle.item_types.proofs.Sounds.{binding_sound, changed_sound, function_sound, handler_sound, states_sound}
use Rattle.item_types.proofs.items.judge_item.Goals as goal

pub returns-in-Property : goal.returns-in-Property
returns-in-Property c = item_at c.args.scope.now c.judge_property.result (ap out-Item c.in-Property.is ∙ items.outs-Property c.in-Property.property) c.judge_property.ensures

pub returns-in-Callback : goal.returns-in-Callback
returns-in-Callback c = item_at c.args.scope.now c.judge_callback.result (ap out-Item c.in-Callback.is ∙ items.outs-Callback c.in-Callback.callback) c.judge_callback.ensures

pub returns-in-Function : goal.returns-in-Function
returns-in-Function c = item_at c.args.scope.now c.some.result (ap out-Item c.in-Function.is ∙ items.outs-Function c.in-Function.function) (some_item (function_judging c.args.scope.now c.in-Function.function) (function_sound c.args.scope.now c.in-Function.function) c.judge_function.result c.judge_function.ensures c.some.result c.some.ensures)

pub returns-in-Binding : goal.returns-in-Binding
returns-in-Binding c = item_at c.args.scope.now c.some-in-Binding.result (ap out-Item c.in-Binding.is ∙ items.outs-Binding c.in-Binding.binding) (some_item (binding_judging c.args.scope.now c.in-Binding.binding.name c.in-Binding.binding.value) (binding_sound c.args.scope.now c.in-Binding.binding.name c.in-Binding.binding.value) c.judge_binding.result c.judge_binding.ensures c.some-in-Binding.result c.some-in-Binding.ensures)

pub returns-in-Link : goal.returns-in-Link
returns-in-Link c = item_at c.args.scope.now c.some-in-Link.result (ap out-Item c.in-Link.is ∙ items.outs-Link c.in-Link.link) (some_link (link c.args.scope.now c.in-Link.link.left c.in-Link.link.right c.in-Link.link.span) c.judge_link.result c.judge_link.ensures c.some-in-Link.result c.some-in-Link.ensures)

pub returns-in-Handler : goal.returns-in-Handler
returns-in-Handler c = item_at c.args.scope.now c.some-in-Handler.result (ap out-Item c.in-Handler.is ∙ items.outs-Handler c.in-Handler.handler) (some_item (handler_judging c.args.scope.now c.in-Handler.handler) (handler_sound c.args.scope.now c.in-Handler.handler) c.judge_handler.result c.judge_handler.ensures c.some-in-Handler.result c.some-in-Handler.ensures)

pub returns-in-Changed : goal.returns-in-Changed
returns-in-Changed c = item_at c.args.scope.now c.some-in-Changed.result (ap out-Item c.in-Changed.is ∙ items.outs-Changed c.in-Changed.changed) (some_item (changed_judging c.args.scope.now c.in-Changed.changed) (changed_sound c.args.scope.now c.in-Changed.changed) c.judge_changed.result c.judge_changed.ensures c.some-in-Changed.result c.some-in-Changed.ensures)

pub returns-in-States : goal.returns-in-States
returns-in-States c = item_at c.args.scope.now c.some-in-States.result (ap out-Item c.in-States.is ∙ items.outs-States c.in-States.list) (some_item (states_judging c.args.scope.now c.in-States.list) (states_sound c.args.scope.now c.in-States.list) c.judge_states.result c.judge_states.ensures c.some-in-States.result c.some-in-States.ensures)

pub returns-in-Element : goal.returns-in-Element
returns-in-Element c = item_told c.args.scope.now (ap out-Item c.in-Element.is ∙ items.outs-Element c.in-Element.field-0) no_item

pub returns-in-If : goal.returns-in-If
returns-in-If c = item_told c.args.scope.now (ap out-Item c.in-If.is ∙ items.outs-If c.in-If.field-0) no_item

pub returns-in-For : goal.returns-in-For
returns-in-For c = item_told c.args.scope.now (ap out-Item c.in-For.is ∙ items.outs-For c.in-For.field-0) no_item

pub returns-in-Children : goal.returns-in-Children
returns-in-Children c = item_told c.args.scope.now (ap out-Item c.in-Children.is ∙ items.outs-Children c.in-Children.field-0) no_item
