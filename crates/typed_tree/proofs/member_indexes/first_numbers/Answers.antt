use Rattle.std.specs.Prelude.{take}
use Rattle.typed_tree.proofs.FirstNumbers.{grows, more_taken, taken_length}
use Rattle.typed_tree.proofs.member_indexes.first_numbers.Goals as goal

pub loop-number-preserved : goal.loop-number-preserved
loop-number-preserved c = grows c.args.names.now (take c.loop-number.number c.args.members.now) _ c.index-members-number.result c.loop-number.numbers c.add_first.new.numbers c.loop-number.number c.first-first.result
    (more_taken c.args.members.now c.loop-number.number c.index-members-number.result c.loop-number-test.true c.index-members-number.is) c.first-first.ensures c.in_ok-add_first.ensures
    (taken_length c.args.members.now c.loop-number.number c.loop-number-test.true) c.loop-number.invariant
