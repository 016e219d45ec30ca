use Rattle.std.proofs.Common.{arith}
use Rattle.property_cells.specs.Marks.{pending}
use Rattle.property_cells.proofs.BlockLoops.{AreWritten-none, AreWritten-more}
use Rattle.property_cells.proofs.marks.Marks.set_all.Goals as goal

pub loop-cell-init : goal.loop-cell-init
loop-cell-init c = AreWritten-none (pending c.args.self.now) c.args.first c.args.state

pub set-requires : goal.set-requires
set-requires c = let e = c.loop-cell.invariant.count in omega (arith, e, c.requires)

pub loop-cell-preserved : goal.loop-cell-preserved
loop-cell-preserved c =
    let e = c.loop-cell.invariant.count in
    AreWritten-more (pending c.args.self.now) (pending c.loop-cell.self) (pending c.set.new.self) c.args.first c.loop-cell.cell c.args.state c.loop-cell.invariant (omega arith) (omega (arith, e, c.requires)) c.set.ensures
