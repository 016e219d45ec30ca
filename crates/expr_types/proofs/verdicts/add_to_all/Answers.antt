use Rattle.expr_types.proofs.Telling.{told_at, all_one_more, all_one_fault}
use Rattle.expr_types.proofs.verdicts.add_to_all.Goals as goal

pub returns-in-Err : goal.returns-in-Err
returns-in-Err c = λ s n t ns seen. all_one_fault n ns (told_at c.in-Err.is t) seen

pub returns : goal.returns
returns c = λ s n t ns seen. all_one_more n ns c.in_ok-push.ensures.ok (told_at c.in-Ok.is t) seen
