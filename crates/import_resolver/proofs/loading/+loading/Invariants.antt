use Rattle.std.proofs.Common.{◌≡◌, ◌+◌, ◌-◌, ◌*◌, length, take, slice_get, Some}
use Rattle.io_edge.specs.Counts.{IsQuiet}
use Rattle.file_exports.specs.Imports.{imports_among}
use Rattle.import_resolver.specs.declared.tables.SeenFile.{SeenFile}
use Rattle.import_resolver.specs.Loads.{Every}
use Rattle.import_resolver.specs.Tables.{Went, seen_of_file}
use Rattle.import_resolver.proofs.loading.+loading.Given as goal

abbrev pub decreases-load_whole : goal.decreases-load_whole
decreases-load_whole g l = (64 - length l.table.now.files) * 3

abbrev pub decreases-load_every : goal.decreases-load_every
decreases-load_every g l = (64 - length l.table.now.files) * 3 + 2

abbrev pub decreases-load_item : goal.decreases-load_item
decreases-load_item g l = (64 - length l.table.now.files) * 3 + 1

-- the imports among the items so far are loaded
abbrev pub invariant-load_every-loop-item : goal.invariant-load_every-loop-item
invariant-load_every-loop-item g l = record {
  went : (file : SeenFile) → slice_get l.initial.table.files l.importer ≡ Some file
      → Went l.main (g.F.Files.held l.initial.files) l.initial.table (Every (seen_of_file file) (imports_among (take l.item file.tree.items))) l.table;
  faults : g.F.Files.faults l.files ≡ g.F.Files.faults l.initial.files;
  misses : g.F.Files.misses l.files ≡ g.F.Files.misses l.initial.files;
  same_map : g.F.Files.held l.files ≡ g.F.Files.held l.initial.files;
  steady : g.F.Files.is_steady l.initial.files → g.F.Files.is_steady l.files;
}
