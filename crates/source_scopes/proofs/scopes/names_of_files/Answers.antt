use Rattle.std.proofs.Common.{◌∙◌, arith}
use Rattle.import_resolver.specs.Loaded.{rows_of}
use Rattle.source_scopes.proofs.Whole.{names_each, names_filled, names_grown, names_of_file}
use Rattle.source_scopes.proofs.scopes.names_of_files.Goals as goal

pub loop-file-preserved : goal.loop-file-preserved
loop-file-preserved c = record {
  sized = names_grown c.loop-file.names _ c.loop-file.file _ c.loop-file.invariant.sized c.in_ok-push.ensures.ok;
  each = names_each (rows_of c.args.loaded.now) c.loop-file.names _ c.loop-file.file _ c.loop-file.invariant.sized c.loop-file.invariant.each
      (names_of_file (rows_of c.args.loaded.now) c.args.tables.now c.args.types.now c.loop-file.file c.slice_in-entries.result.now _ c.requires.tables c.requires.types
      (c.slice_in-entries.ensures ∙ c.scope_in.ensures) c.in_ok-new.ensures)
      c.in_ok-push.ensures.ok;
}

pub returns : goal.returns
returns c = names_filled (rows_of c.args.loaded.now) c.loop-file.names (omega (arith, c.file_count-file-end.ensures, c.loop-file-test.false, c.loop-file.invariant.sized)) c.loop-file.invariant.each
