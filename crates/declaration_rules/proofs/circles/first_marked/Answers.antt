use Rattle.std.proofs.Common.{get_or}
use Rattle.declaration_rules.specs.Circles.{marked_fault}
use Rattle.declaration_rules.proofs.Circling.{get_or-itself, marked-is, no_usage}
use Rattle.declaration_rules.proofs.Telling.{turn_tells-all, turn_tells-next}
use Rattle.declaration_rules.proofs.circles.first_marked.Goals as goal

pub loop-number-preserved : goal.loop-number-preserved
loop-number-preserved c =
    turn_tells-next (marked_fault c.args.marks.now) c.loop-number.first c.broken_if-fault.result c.earlier-first.result c.args.usages.now c.loop-number.number (get_or c.args.usages.now c.loop-number.number no_usage) c.loop-number-test.true (get_or-itself c.args.usages.now c.loop-number.number no_usage c.loop-number-test.true) c.loop-number.invariant
    (marked-is c.args.marks.now c.args.usages.now c.loop-number.number (get_or c.args.usages.now c.loop-number.number no_usage) c.is_set.result c.broken_if-fault.result c.loop-number-test.true c.is_set.ensures c.broken_if-fault.ensures) c.earlier-first.ensures

pub returns : goal.returns
returns c = turn_tells-all (marked_fault c.args.marks.now) c.loop-number.first c.args.usages.now c.loop-number.number c.loop-number-test.false c.loop-number.invariant
