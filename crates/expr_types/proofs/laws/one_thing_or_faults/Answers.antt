use Rattle.expr_types.proofs.Outcomes.{one_thing, no_fault}
use Rattle.expr_types.proofs.laws.one_thing_or_faults.Goals as goal

pub returns-clause-one_thing : goal.returns-clause-one_thing
returns-clause-one_thing c = λ s n x y p q. one_thing p q

pub returns-clause-no_fault : goal.returns-clause-no_fault
returns-clause-no_fault c = λ s n x f p q. no_fault q p
