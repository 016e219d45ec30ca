use Rattle.std.proofs.Common.{◌||◌, drop, map}
use Rattle.std.specs.HashSet.{contains_text}
use Rattle.file_exports.specs.Imports.{outer_name}
use Rattle.file_exports.specs.Roots.{has_name}
use Rattle.file_exports.proofs.AddedNames.{Completes}
use Rattle.file_exports.proofs.names.add_outer.Given as goal

abbrev pub invariant-loop-alias : goal.invariant-loop-alias
invariant-loop-alias l = Completes l.names (map outer_name (drop l.alias-index l.list)) (λ name. contains_text l.initial.names name || has_name (map outer_name l.list) name)
