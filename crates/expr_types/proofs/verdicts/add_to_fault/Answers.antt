use Rattle.expr_types.proofs.Telling.{told_at, fault_one_more, fault_one_fault}
use Rattle.expr_types.proofs.verdicts.add_to_fault.Goals as goal

pub returns-in_default : goal.returns-in_default
returns-in_default c = λ s n t ns seen. fault_one_more n ns (told_at c.in_default.is t) seen

pub returns : goal.returns
returns c = λ s n t ns seen. fault_one_fault n ns c.earlier.ensures.before_a c.earlier.ensures.before_b c.earlier.ensures.chosen (told_at c.in-Err.is t) seen
