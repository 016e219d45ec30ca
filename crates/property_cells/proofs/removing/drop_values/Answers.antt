use Rattle.std.proofs.Common.{◌≡◌, subst, arith}
use Rattle.property_cells.specs.Removing.{AreDropped}
use Rattle.property_cells.proofs.BlockLoops.{AreDropped-none, AreDropped-more}
use Rattle.property_cells.proofs.removing.drop_values.Goals as goal

pub loop-cell-init : goal.loop-cell-init
loop-cell-init c = AreDropped-none c.args.values.now c.args.first

pub loop-cell-preserved : goal.loop-cell-preserved
loop-cell-preserved c = AreDropped-more c.args.values.now c.loop-cell.values c.args.first c.loop-cell.cell c.loop-cell.invariant (omega arith)

pub returns : goal.returns
returns c =
    let e : c.loop-cell.cell ≡ c.args.past = omega arith in
    subst (λ k. AreDropped c.args.values.now c.loop-cell.values c.args.first k) e c.loop-cell.invariant
