use Rattle.slint_grammar.proofs.Again.{printed_again}
use Rattle.slint_grammar.proofs.laws.printed_again.Goals as goal

pub returns : goal.returns
returns c = printed_again
