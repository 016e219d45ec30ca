use Rattle.slint_lexer.proofs.OneAnswer.{one_lexing, one_fault}
use Rattle.slint_lexer.proofs.laws.one_answer.Goals as goal

pub returns-clause-tokens : goal.returns-clause-tokens
returns-clause-tokens c = one_lexing

pub returns-clause-fault : goal.returns-clause-fault
returns-clause-fault c = one_fault
