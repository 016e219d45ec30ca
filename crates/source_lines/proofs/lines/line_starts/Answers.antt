use Rattle.std.proofs.Common.{get_or, refl}
use Rattle.source_lines.proofs.Starting.{starts-step}
use Rattle.source_lines.proofs.lines.line_starts.Goals as goal

pub loop-at-preserved : goal.loop-at-preserved
loop-at-preserved c =
    starts-step c.args.bytes.now c.loop-at.at (get_or c.args.bytes.now c.loop-at.at 0) c.loop-at.starts.items c.push_start.new.starts.items c.loop-at-test.true refl c.loop-at.invariant c.in_ok-push_start.ensures
