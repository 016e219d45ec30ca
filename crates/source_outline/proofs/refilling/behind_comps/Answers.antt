use Rattle.source_outline.proofs.Behind.{behind_turn, behind_ended}
use Rattle.source_outline.proofs.refilling.behind_comps.Goals as goal

pub loop-comp-preserved : goal.loop-comp-preserved
loop-comp-preserved c = behind_turn c.args.comps.now c.loop-comp.comp-index c.len.result c.comp-item.result c.loop-comp.rest.now c.dropped-rest.result.now _ c.comp-item.is c.loop-comp-test.true c.len.ensures c.dropped-rest.ensures c.loop-comp.invariant

pub returns : goal.returns
returns c = behind_ended c.args.comps.now c.loop-comp.comp-index c.loop-comp.rest.now _ c.loop-comp-test.false c.loop-comp.invariant
