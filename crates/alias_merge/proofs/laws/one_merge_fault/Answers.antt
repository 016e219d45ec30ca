use Rattle.alias_merge.proofs.MergeFaults.{one_merge_fault}
use Rattle.alias_merge.proofs.laws.one_merge_fault.Goals as goal

pub returns : goal.returns
returns c = one_merge_fault
