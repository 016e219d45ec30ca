use Rattle.std.proofs.Common.{refl}
use Rattle.source_outline.specs.Following.{comps_with}
use Rattle.source_outline.proofs.Pops.{comps_turn, pop_ended}
use Rattle.source_outline.proofs.refilling.comps_with.Goals as goal

pub loop-comp-preserved : goal.loop-comp-preserved
loop-comp-preserved c = comps_turn c.loop-comp.rest.now c.dropped-rest.result.now c.len-count.result c.in-Some.comp c.in_ok-comp_with.field-0 c.loop-comp.left c.pop.new.self c.loop-comp.made c.push.new.self _
    c.in-Some.ensures c.len-count.ensures c.in_ok-comp_with.ensures c.in_ok-push.ensures.ok c.dropped-rest.ensures c.loop-comp.invariant

pub returns : goal.returns
returns c = pop_ended (λ xs. comps_with c.loop-comp.rest.now xs) c.loop-comp.left c.loop-comp.made _ refl c.in_default.ensures.0 c.loop-comp.invariant
