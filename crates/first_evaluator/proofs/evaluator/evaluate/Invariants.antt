use Rattle.first_evaluator.specs.Evaluated.{AreRight}
use Rattle.first_evaluator.proofs.evaluator.evaluate.Given as goal

-- the values before the place are right
abbrev pub invariant-loop-at : goal.invariant-loop-at
invariant-loop-at l = AreRight l.component l.assigned l.values l.at
