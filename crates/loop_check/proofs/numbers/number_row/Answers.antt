use Rattle.loop_check.proofs.Numbering.{row_next}
use Rattle.loop_check.proofs.numbers.number_row.Goals as goal

pub loop-number-preserved : goal.loop-number-preserved
loop-number-preserved c =
    row_next c.args.home c.loop-number.number c.len-next.result _ _ c.len-next.ensures c.loop-number.invariant c.in_ok-push.ensures.ok c.in_ok-push-2.ensures.ok
