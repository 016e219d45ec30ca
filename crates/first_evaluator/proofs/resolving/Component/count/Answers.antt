use Rattle.first_evaluator.proofs.ResolvedSums.{bound_from_sums}
use Rattle.first_evaluator.proofs.resolving.Component.count.Goals as goal

pub returns-clause-bound : goal.returns-clause-bound
returns-clause-bound c = rw (← c.self.view_is) (bound_from_sums c.self.inside.file.props _ c.self.invariant.resolved)
