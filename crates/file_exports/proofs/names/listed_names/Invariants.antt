use Rattle.std.proofs.Common.{drop}
use Rattle.file_exports.specs.Roots.{has_name, listed_among}
use Rattle.file_exports.proofs.AddedNames.{Completes}
use Rattle.file_exports.proofs.names.listed_names.Given as goal

abbrev pub invariant-loop-item : goal.invariant-loop-item
invariant-loop-item l = Completes l.names (listed_among (drop l.item-index l.items)) (has_name (listed_among l.items))
