use Rattle.std.proofs.Common.{refl}
use Rattle.source_outline.specs.Following.{globals_with}
use Rattle.source_outline.proofs.Pops.{globals_turn, pop_ended}
use Rattle.source_outline.proofs.refilling.globals_with.Goals as goal

pub loop-global-preserved : goal.loop-global-preserved
loop-global-preserved c = globals_turn c.loop-global.rest.now c.dropped-rest.result.now c.len-count.result c.in-Some.global c.in_ok-global_with.field-0 c.loop-global.left c.pop.new.self c.loop-global.made c.push.new.self _
    c.in-Some.ensures c.len-count.ensures c.in_ok-global_with.ensures c.in_ok-push.ensures.ok c.dropped-rest.ensures c.loop-global.invariant

pub returns : goal.returns
returns c = pop_ended (λ xs. globals_with c.loop-global.rest.now xs) c.loop-global.left c.loop-global.made _ refl c.in_default.ensures.0 c.loop-global.invariant
