use Rattle.std.proofs.Common.{◌≡◌, drop, map}
use Rattle.import_resolver.specs.Tables.{seen_of_file}
use Rattle.import_resolver.proofs.Lists.{missing_among}
use Rattle.import_resolver.proofs.tables.Table.first_missing.Given as goal

abbrev pub invariant-loop-alias : goal.invariant-loop-alias
invariant-loop-alias l = missing_among (map seen_of_file l.self.files) l.reached (drop l.alias-index l.names) ≡ missing_among (map seen_of_file l.self.files) l.reached l.names
