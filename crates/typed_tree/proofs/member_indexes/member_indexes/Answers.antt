use Rattle.std.specs.Prelude.{position, take}
use Rattle.std.proofs.Common.{◌∙◌, sym, ap}
use Rattle.typed_tree.specs.MemberIndexes.{is_named}
use Rattle.typed_tree.proofs.FirstNumbers.{finds_longer, longer_still, more_taken, taken_length}
use Rattle.typed_tree.proofs.member_indexes.member_indexes.Goals as goal

pub loop-comp-preserved : goal.loop-comp-preserved
loop-comp-preserved c = record {
  same_length = longer_still c.loop-comp.indexes _ c.in_ok-member_index.field-0 c.loop-comp.comp-index c.in_ok-push.ensures.ok c.loop-comp.invariant.same_length;
  finds = finds_longer (take c.loop-comp.comp-index c.args.comps.now) _ c.loop-comp.indexes _ c.comp-item.result c.in_ok-member_index.field-0
      (more_taken c.args.comps.now c.loop-comp.comp-index c.comp-item.result c.loop-comp-test.true c.comp-item.is) c.in_ok-push.ensures.ok
      (c.loop-comp.invariant.same_length ∙ sym (taken_length c.args.comps.now c.loop-comp.comp-index c.loop-comp-test.true)) c.loop-comp.invariant.finds
      (λ element name. c.in_ok-member_index.ensures element name ∙ ap (λ members. position (is_named element name) members) c.as_slice.ensures);
}
