use Rattle.std.proofs.Common.{◌∙◌}
use Rattle.import_resolver.specs.Loaded.{rows_of}
use Rattle.source_scopes.proofs.Whole.{struct_is, struct_none}
use Rattle.source_scopes.proofs.structs.type_of_struct.Goals as goal

pub returns-in_ok-made-in-Some : goal.returns-in_ok-made-in-Some
returns-in_ok-made-in-Some c = c.in_ok-made-in-Some.ensures ∙ struct_is (rows_of c.args.loaded.now) c.args.tables.now c.args.types.now c.args.structs.now c.args.number c.in-Some.of.now _ c.as_slice.result.now
    c.requires.structs c.requires.tables c.in-Some.ensures c.scope_in-scope.ensures c.as_slice.ensures

pub returns-in-None : goal.returns-in-None
returns-in-None c = struct_none (rows_of c.args.loaded.now) c.args.types.now c.args.structs.now c.args.number c.requires.structs c.in-None.ensures
