use Rattle.std.proofs.Common.{◌≡◌, drop, map}
use Rattle.import_resolver.specs.Loads.{reached_named}
use Rattle.import_resolver.specs.Tables.{done_of_file}
use Rattle.import_resolver.proofs.tables.Table.reached_named.Given as goal

abbrev pub invariant-loop-file : goal.invariant-loop-file
invariant-loop-file l = reached_named (map done_of_file (drop l.file-index l.file-items)) l.name ≡ reached_named (map done_of_file l.fn.self.done) l.name
