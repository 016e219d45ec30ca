use Rattle.source_faults.proofs.Others.{not_missing}
use Rattle.source_faults.proofs.Sources.{impure_other}
use Rattle.source_faults.proofs.laws.no_impurity_misses_a_file.Goals as goal

pub returns : goal.returns
returns c = λ tree f broken is. not_missing f.rule (impure_other tree f broken) is
