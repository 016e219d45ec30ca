use Rattle.alias_merge.proofs.OneChoice.{some_choice}
use Rattle.alias_merge.proofs.laws.some_choice.Goals as goal

pub returns : goal.returns
returns c = some_choice
