use Rattle.alias_merge.proofs.MergeFaults.{merge_rule, no_file_missed}
use Rattle.alias_merge.proofs.laws.no_merge_fault_misses_a_file.Goals as goal

pub returns-clause-rules : goal.returns-clause-rules
returns-clause-rules c = merge_rule

pub returns-clause-no_file : goal.returns-clause-no_file
returns-clause-no_file c = no_file_missed
