use Rattle.cells_bench.specs.Shapes.{count_of}
use Rattle.cells_bench.specs.Rest.{AtRest, AllStand}
use Rattle.cells_bench.proofs.rounds.run_rounds.Given as goal

abbrev pub invariant-loop-round : goal.invariant-loop-round
invariant-loop-round l = record { rest : AtRest (count_of l.shape) l.cells; stand : AllStand (count_of l.shape) l.cells }
