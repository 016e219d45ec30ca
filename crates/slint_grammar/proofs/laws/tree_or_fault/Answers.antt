use Rattle.slint_grammar.proofs.OneFault.{only_one, tree_or_fault}
use Rattle.slint_grammar.proofs.laws.tree_or_fault.Goals as goal

pub returns : goal.returns
returns c = record { one = tree_or_fault; only_one = only_one }
