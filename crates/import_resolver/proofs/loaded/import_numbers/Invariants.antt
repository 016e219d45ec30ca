use Rattle.std.proofs.Common.{take, drop}
use Rattle.file_exports.specs.Imports.{imports_among}
use Rattle.import_resolver.specs.Numbers.{AllMeant, AreNumbers}
use Rattle.import_resolver.proofs.loaded.import_numbers.Given as goal

-- the numbers of the imports so far, and what the others mean
abbrev pub invariant-loop-item : goal.invariant-loop-item
invariant-loop-item l = record {
  numbered : AreNumbers l.main l.names l.file.name (imports_among (take l.item-index l.item-items)) l.numbers.items;
  meant : AllMeant l.main l.names l.file.name (imports_among (drop l.item-index l.item-items));
}
