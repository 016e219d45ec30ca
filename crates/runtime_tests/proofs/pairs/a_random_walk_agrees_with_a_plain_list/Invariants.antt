use Rattle.std.proofs.Common.{◌+◌, ◌≤◌, length}
use Rattle.runtime_tests.proofs.pairs.a_random_walk_agrees_with_a_plain_list.Given as goal

abbrev pub invariant-loop-turn : goal.invariant-loop-turn
invariant-loop-turn g l = (5 ≤ l.deps.readers) × (7 ≤ l.deps.points) × (12 ≤ l.deps.spare + length l.deps.pairs)
