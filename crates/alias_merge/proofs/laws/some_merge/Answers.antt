use Rattle.alias_merge.proofs.SomeMerge.{some_merge}
use Rattle.alias_merge.proofs.laws.some_merge.Goals as goal

pub returns : goal.returns
returns c = some_merge
