use Rattle.slint_lexer.proofs.ReadyTokens.{lexing_fits}
use Rattle.slint_lexer.proofs.laws.lexed_fit.Goals as goal

pub returns : goal.returns
returns c = lexing_fits
