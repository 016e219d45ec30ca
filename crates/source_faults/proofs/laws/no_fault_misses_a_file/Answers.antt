use Rattle.source_faults.proofs.Others.{not_missing}
use Rattle.source_faults.proofs.Sources.{broken_other}
use Rattle.source_faults.proofs.laws.no_fault_misses_a_file.Goals as goal

pub returns : goal.returns
returns c = λ rows named f broken is. not_missing f.rule (broken_other rows named f broken) is
