use Rattle.alias_merge.proofs.OneMerge.{same_classes}
use Rattle.alias_merge.proofs.laws.one_merge.Goals as goal

pub returns : goal.returns
returns c = same_classes
