use Rattle.std.proofs.Common.{arith}
use Rattle.cells_tests.proofs.Runs.{stands_added}
use Rattle.cells_tests.proofs.cells.two_runs.Goals as goal

pub run-requires-clause-invalid : goal.run-requires-clause-invalid
run-requires-clause-invalid c = c.in_ok-first.ensures.ok.added c.in_ok-first.first (omega arith) (omega arith)

pub run-requires-2-clause-invalid : goal.run-requires-2-clause-invalid
run-requires-2-clause-invalid c = c.in_ok-second.ensures.ok.added c.in_ok-second.second (omega arith) (omega arith)

pub run-requires-2-clause-first : goal.run-requires-2-clause-first
run-requires-2-clause-first c =
    stands_added c.run.new.cells c.add-2.new.self c.in_ok-second.second 1 c.in_ok-first.first c.in_ok-second.ensures.ok c.in_ok-run.ensures.own
