use Rattle.std.proofs.Common.{◌≡◌, ◌<◌, ◌≤◌, ◌+◌, ℤ, pos, length, All, take, take_all, subst, arith}
use Rattle.std.proofs.lemmas.List.Elements.{All-more}
use Rattle.layout_solve.specs.Tracks.{IsCell}
use Rattle.runtime_tests.proofs.grids.are_cells.Goals as goal

pub loop-cell-preserved : goal.loop-cell-preserved
loop-cell-preserved c = All-more (IsCell c.args.tracks) c.args.cells.now c.loop-cell.cell-index _ c.loop-cell-test.true c.loop-cell.invariant (record { item_is = c.if-not-is_item.ensures; spans = omega arith; inside = c.if-cell-tracks.false })

pub returns : goal.returns
returns c = subst (All (IsCell c.args.tracks)) (take_all c.loop-cell.cell-index c.args.cells.now c.loop-cell-test.false) c.loop-cell.invariant
