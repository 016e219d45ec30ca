use Rattle.alias_merge.proofs.MergeFaults.{merged_or_broken}
use Rattle.alias_merge.proofs.laws.merged_or_broken.Goals as goal

pub returns : goal.returns
returns c = merged_or_broken
