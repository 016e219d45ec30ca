use Rattle.source_outline.proofs.Drawings.{drawn_turn, drawn_ended}
use Rattle.source_outline.proofs.ends.link_graph.Goals as goal

pub loop-number-preserved : goal.loop-number-preserved
loop-number-preserved c = drawn_turn c.args.nexts.now c.loop-number.number _ c.loop-number.graph c.push_edge.new.graph c.loop-number-test.true c.in_ok-push_edge.ensures c.loop-number.invariant

pub returns : goal.returns
returns c = drawn_ended c.args.nexts.now c.loop-number.number c.loop-number.graph c.loop-number-test.false c.loop-number.invariant
