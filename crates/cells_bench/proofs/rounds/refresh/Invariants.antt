use Rattle.cells_bench.specs.Shapes.{count_of}
use Rattle.cells_bench.specs.Rest.{AtRest, AllStand}
use Rattle.cells_bench.proofs.rounds.refresh.Given as goal

abbrev pub invariant-loop-cell : goal.invariant-loop-cell
invariant-loop-cell l = record { rest : AtRest (count_of l.shape) l.cells; below : AllStand l.cell l.cells }
