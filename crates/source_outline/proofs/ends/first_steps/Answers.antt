use Rattle.source_outline.proofs.Chains.{first_turn}
use Rattle.source_outline.proofs.ends.first_steps.Goals as goal

pub loop-number-preserved : goal.loop-number-preserved
loop-number-preserved c = first_turn c.args.nexts.now c.loop-number.number c.step.result c.loop-number.ends c.push.new.self c.step.ensures c.in_ok-push.ensures.ok c.loop-number.invariant
