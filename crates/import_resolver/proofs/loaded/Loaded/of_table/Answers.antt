use Rattle.std.proofs.Common.{ℕ, ap, ◌∙◌}
use Rattle.import_paths.specs.Paths.{folder_of, IsBelow}
use Rattle.import_resolver.specs.declared.tables.SeenFile.{SeenFile}
use Rattle.import_resolver.specs.Loaded.{rows_of}
use Rattle.import_resolver.specs.Tables.{names_of}
use Rattle.import_resolver.proofs.Rows.{next_each, next_fresh, next_meant, split-next, split-end}
use Rattle.import_resolver.proofs.loaded.Loaded.of_table.Goals as goal

pub import_numbers-requires-clause-below : goal.import_numbers-requires-clause-below
import_numbers-requires-clause-below c =
    next_each (λ (k : ℕ) (file : SeenFile). IsBelow (folder_of c.args.main.now) file.name) c.args.main.now c.as_slice-names.result.now c.args.table.files c.loop-file.files c.take_first.new.files (rows_of c.loop-file.loaded) c.in-Some.file c.loop-file.invariant c.in-Some.ensures c.requires.below

pub import_numbers-requires-clause-meant : goal.import_numbers-requires-clause-meant
import_numbers-requires-clause-meant c =
    next_meant c.args.main.now c.as_slice-names.result.now c.args.table.files c.loop-file.files c.take_first.new.files (rows_of c.loop-file.loaded) c.in-Some.file c.loop-file.invariant c.in-Some.ensures
    (c.as_slice-names.ensures ∙ (c.in_ok-listed.ensures ∙ ap names_of c.as_slice.ensures)) c.requires.meant

pub add-requires : goal.add-requires
add-requires c =
    next_fresh c.args.main.now c.as_slice-names.result.now c.args.table.files c.loop-file.files c.take_first.new.files (rows_of c.loop-file.loaded) c.in-Some.file c.loop-file.invariant c.in-Some.ensures c.requires.once

pub loop-file-preserved : goal.loop-file-preserved
loop-file-preserved c =
    split-next c.args.main.now c.as_slice-names.result.now c.args.table.files c.loop-file.files c.take_first.new.files (rows_of c.loop-file.loaded) (rows_of c.add.new.self) c.in-Some.file c.in_ok-imports.imports.items c.loop-file.invariant c.in-Some.ensures c.in_ok-imports.ensures c.in_ok-add.ensures

pub returns : goal.returns
returns c =
    split-end c.args.main.now c.as_slice-names.result.now c.args.table.files c.loop-file.files (rows_of c.loop-file.loaded) c.loop-file.invariant c.in_default.ensures.0 (c.as_slice-names.ensures ∙ (c.in_ok-listed.ensures ∙ ap names_of c.as_slice.ensures))
