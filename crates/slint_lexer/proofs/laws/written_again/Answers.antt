use Rattle.slint_lexer.proofs.WrittenTokens.{written_lexes}
use Rattle.slint_lexer.proofs.laws.written_again.Goals as goal

pub returns : goal.returns
returns c = written_lexes
