use Rattle.std.proofs.Common.{◌∙◌}
use Rattle.loop_check.proofs.Faults.{told}
use Rattle.loop_check.proofs.purity.purity_fault.Goals as goal

pub returns : goal.returns
returns c =
    told c.args.tree.now c.in_ok-spread.spread c.as_slice-2.result.now c.first_fault.result c.in_ok-spread.ensures (c.as_slice-2.ensures ∙ c.in_ok-bodies.ensures) c.first_fault.ensures
