use Rattle.std.proofs.Common.{map}
use Rattle.finite_graphs.proofs.Lists.{at_read, map_at}
use Rattle.loop_check.specs.Numbers.{declared_in_global}
use Rattle.loop_check.proofs.Numbering.{rows_read}
use Rattle.loop_check.proofs.numbers.number_globals.Goals as goal

pub loop-number-preserved : goal.loop-number-preserved
loop-number-preserved c =
    rows_read (map declared_in_global c.args.globals.now) c.loop-number.number (declared_in_global c.index-globals-number.result) c.as_slice.result.now c.push.new.self
    (map_at declared_in_global (at_read c.args.globals.now c.loop-number.number c.index-globals-number.result c.loop-number-test.true c.index-globals-number.is)) c.as_slice.ensures
    c.loop-number.invariant c.in_ok-row.ensures c.in_ok-push.ensures.ok
