use Rattle.std.proofs.Common.{◌≡◌, drop, map}
use Rattle.import_resolver.specs.Loads.{is_exported}
use Rattle.import_resolver.specs.Tables.{seen_of_file}
use Rattle.import_resolver.proofs.tables.Table.is_exported.Given as goal

abbrev pub invariant-loop-number : goal.invariant-loop-number
invariant-loop-number l = is_exported (map seen_of_file l.self.files) (drop l.number-index l.reached) l.name ≡ is_exported (map seen_of_file l.self.files) l.reached l.name
