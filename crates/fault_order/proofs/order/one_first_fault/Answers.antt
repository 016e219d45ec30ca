use Rattle.fault_order.proofs.First.{one_first, FirstIfAny-first_of, first_of-append}
use Rattle.fault_order.proofs.order.one_first_fault.Goals as goal

pub returns-clause-one_first : goal.returns-clause-one_first
returns-clause-one_first c = λ xs f g a b. one_first f g a b

pub returns-clause-first_in_list : goal.returns-clause-first_in_list
returns-clause-first_in_list c = FirstIfAny-first_of

pub returns-clause-first_of_both : goal.returns-clause-first_of_both
returns-clause-first_of_both c = first_of-append
