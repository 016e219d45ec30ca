use Rattle.std.proofs.Common.{arith}
use Rattle.cells_bench.specs.Shapes.{count_of}
use Rattle.cells_bench.proofs.Rests.{rest_next, stand_next}
use Rattle.cells_bench.proofs.rounds.refresh.Goals as goal

pub loop-cell-init : goal.loop-cell-init
loop-cell-init c = record { rest = c.requires; below = λ d h. absurd (omega arith) }

pub settle-requires-clause-idle : goal.settle-requires-clause-idle
settle-requires-clause-idle c = c.loop-cell.invariant.rest.idle c.loop-cell.cell (omega arith)

pub settle-requires-clause-below : goal.settle-requires-clause-below
settle-requires-clause-below c = c.loop-cell.invariant.below

pub loop-cell-preserved : goal.loop-cell-preserved
loop-cell-preserved c = record {
  rest = rest_next (count_of c.args.shape) c.loop-cell.cell c.loop-cell.cells c.settle.new.cells c.loop-cell.invariant.rest c.in_ok-settle.ensures.own c.in_ok-settle.ensures.others c.in_ok-settle.ensures.running;
  below = stand_next c.loop-cell.cell c.loop-cell.cells c.settle.new.cells c.loop-cell.invariant.below c.in_ok-settle.ensures.own c.in_ok-settle.ensures.others;
}

pub returns-clause-rest : goal.returns-clause-rest
returns-clause-rest c = c.loop-cell.invariant.rest

pub returns-clause-stand : goal.returns-clause-stand
returns-clause-stand c = λ d h. c.loop-cell.invariant.below d (omega arith)
