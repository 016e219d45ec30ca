use Rattle.std.proofs.Common.{◌≡◌, drop, map}
use Rattle.file_exports.specs.Imports.{taken_over_among}
use Rattle.import_resolver.specs.Loads.{reached_by, reached_over}
use Rattle.import_resolver.specs.Tables.{done_of_file, seen_of_file}
use Rattle.import_resolver.proofs.tables.Table.reached_by.Given as goal

abbrev pub invariant-loop-item : goal.invariant-loop-item
invariant-loop-item l =
    reached_over l.main (map done_of_file l.self.done) l.file.name l.reached.items (taken_over_among (drop l.item-index l.item-items))
    ≡ reached_by l.main (map done_of_file l.self.done) l.fn.number (seen_of_file l.file)
