use Rattle.slint_lexer.proofs.SomeAnswer.{some_answer}
use Rattle.slint_lexer.proofs.laws.tokens_or_fault.Goals as goal

pub returns : goal.returns
returns c = some_answer
