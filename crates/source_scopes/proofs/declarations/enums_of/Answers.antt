use Rattle.std.proofs.Common.{refl}
use Rattle.import_resolver.specs.Loaded.{rows_of}
use Rattle.typed_tree.specs.BuiltIns.{built_in_enums}
use Rattle.source_scopes.specs.Declarations.{enums_among}
use Rattle.source_scopes.proofs.Filling.{files_turn}
use Rattle.source_scopes.proofs.declarations.enums_of.Goals as goal

pub loop-file-preserved : goal.loop-file-preserved
loop-file-preserved c = files_turn enums_among (rows_of c.args.loaded.now) c.loop-file.file built_in_enums _ _ _ (λ n. refl) c.in_ok-made-2.ensures c.items_at.ensures c.loop-file.invariant
