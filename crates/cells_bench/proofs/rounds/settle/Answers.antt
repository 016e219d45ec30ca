use Rattle.cells_bench.proofs.Rests.{if_below}
use Rattle.cells_bench.proofs.rounds.settle.Goals as goal

pub run-requires-clause-first : goal.run-requires-clause-first
run-requires-clause-first c = if_below c.args.cells.now c.args.cell _ c.requires.below c.reads-first.ensures.first

pub run-requires-clause-second : goal.run-requires-clause-second
run-requires-clause-second c = if_below c.args.cells.now c.args.cell _ c.requires.below c.reads-first.ensures.second
