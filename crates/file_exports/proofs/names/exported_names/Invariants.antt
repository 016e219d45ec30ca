use Rattle.std.proofs.Common.{drop}
use Rattle.file_exports.specs.Imports.{exported_among}
use Rattle.file_exports.specs.Roots.{has_name}
use Rattle.file_exports.proofs.AddedNames.{Completes}
use Rattle.file_exports.proofs.names.exported_names.Given as goal

abbrev pub invariant-loop-item : goal.invariant-loop-item
invariant-loop-item l = Completes l.names (exported_among (drop l.item-index l.items)) (has_name (exported_among l.items))
