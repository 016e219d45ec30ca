use Rattle.std.specs.Prelude.{take}
use Rattle.typed_tree.proofs.DeclarerLists.{noted_more, other_more}
use Rattle.typed_tree.proofs.FirstNumbers.{more_taken}
use Rattle.typed_tree.proofs.declarers.add_declarer.Goals as goal
use Rattle.typed_tree.proofs.declarers.add_declarer.Goals.{then-member-eq0+in_ok-add_number, else-member-eq0}

pub loop-member-preserved : goal.loop-member-preserved
loop-member-preserved c = elim c.if-member-eq0.branch [
  | then-member-eq0+in_ok-add_number w ↦ rw w.found-is (noted_more (take c.loop-member.member-index c.args.members.now) _ c.member-item.result c.args.number c.args.found.now c.loop-member.found w.add_number.new.numbers
      (more_taken c.args.members.now c.loop-member.member-index c.member-item.result c.loop-member-test.true c.member-item.is) w.if-member-eq0.true w.in_ok-add_number.ensures.ok c.loop-member.invariant)
  | else-member-eq0 w ↦ rw w.found-is (other_more (take c.loop-member.member-index c.args.members.now) _ c.member-item.result c.args.number c.args.found.now c.loop-member.found
      (more_taken c.args.members.now c.loop-member.member-index c.member-item.result c.loop-member-test.true c.member-item.is) w.if-member-eq0.false c.loop-member.invariant)
]
