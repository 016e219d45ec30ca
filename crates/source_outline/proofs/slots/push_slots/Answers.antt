use Rattle.std.proofs.Common.{[], ◌++◌, refl, sym, ◌∙◌, ap, arith}
use Rattle.syntax_tree.specs.declared.items.Item.{out-Item}
use Rattle.source_outline.specs.Members.{in_front}
use Rattle.source_outline.specs.Slots.{body_slots, children_by, slot_by}
use Rattle.source_outline.proofs.SlotTurns.{slots_turn, slots_ended, few_more}
use Rattle.source_outline.proofs.slots.push_slots.Goals as goal

pub loop-item-preserved : goal.loop-item-preserved
loop-item-preserved c = (
  few_more _ _ _ _ c.loop-item.invariant.0 c.counted-before.ensures,
  slots_turn c.args.element c.loop-item.before c.counted-before.result c.args.items.now c.loop-item.item-index c.item-item.result c.loop-item.out c.push_if.new.out _ c.item-item.is c.loop-item-test.true
      (c.in_ok-push_if.ensures ∙ ap (λ m. c.loop-item.out ++ in_front m []) c.slot_by.ensures) c.counted-before.ensures c.loop-item.invariant.1,
)

pub returns : goal.returns
returns c = slots_ended c.args.element c.loop-item.before c.args.items.now c.loop-item.item-index c.loop-item.out _ c.loop-item-test.false c.loop-item.invariant.1
