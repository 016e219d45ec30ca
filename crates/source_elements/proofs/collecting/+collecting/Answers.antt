use Rattle.std.proofs.Common.{sym, ◌∙◌}
use Rattle.source_elements.specs.Views.{how_often}
use Rattle.source_elements.proofs.InTurn.{turn, done, element_added, root_is}
use Rattle.source_elements.proofs.collecting.+collecting.Goals as goal

pub push_element-returns : goal.push_element-returns
push_element-returns t c = element_added c.args.element.now c.args.parent (how_often c.args.repeating) c.args.out.now c.push.new.self c.push_body.new.out c.new-itself.result c.as_slice-body.result.now c.len-number.result
    c.in_ok-push.ensures.ok
    (root_is c.args.element.now c.args.parent (how_often c.args.repeating) _ _ _ c.new-itself.ensures c.as_ref-id.ensures.value c.as_slice-body.ensures)
    c.len-number.ensures c.as_slice-body.ensures c.in_ok-push_body.ensures

pub push_body-loop-item-preserved : goal.push_body-loop-item-preserved
push_body-loop-item-preserved t c = turn c.args.items.now c.loop-item.item-index c.item-item.result _ _ c.args.around c.item-item.is c.loop-item-test.true c.in_ok-push_item.ensures ∙ c.loop-item.invariant

pub push_body-returns : goal.push_body-returns
push_body-returns t c = sym (done c.args.items.now c.loop-item.item-index _ c.args.around c.loop-item-test.false) ∙ c.loop-item.invariant
