use Rattle.std.proofs.Common.{map}
use Rattle.finite_graphs.proofs.Lists.{at_read, map_at}
use Rattle.loop_check.specs.Numbers.{declared_in_component}
use Rattle.loop_check.proofs.Numbering.{rows_read}
use Rattle.loop_check.proofs.numbers.number_components.Goals as goal

pub loop-component-preserved : goal.loop-component-preserved
loop-component-preserved c =
    rows_read (map declared_in_component c.args.comps.now) c.loop-component.component (declared_in_component c.index-comps-component.result) c.as_slice.result.now c.push.new.self
    (map_at declared_in_component (at_read c.args.comps.now c.loop-component.component c.index-comps-component.result c.loop-component-test.true c.index-comps-component.is)) c.as_slice.ensures
    c.loop-component.invariant c.in_ok-row.ensures c.in_ok-push.ensures.ok
