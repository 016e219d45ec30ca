use Rattle.alias_merge.proofs.OneChoice.{one_choice, one_list}
use Rattle.alias_merge.proofs.laws.one_choice.Goals as goal

pub returns-clause-of_class : goal.returns-clause-of_class
returns-clause-of_class c = one_choice

pub returns-clause-of_all : goal.returns-clause-of_all
returns-clause-of_all c = one_list
