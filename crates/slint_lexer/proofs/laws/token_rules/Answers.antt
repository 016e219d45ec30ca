use Rattle.slint_lexer.proofs.FaultRules.{token_rule}
use Rattle.slint_lexer.proofs.laws.token_rules.Goals as goal

pub returns : goal.returns
returns c = token_rule
