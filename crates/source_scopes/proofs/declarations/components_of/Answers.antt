use Rattle.std.proofs.Common.{[], refl}
use Rattle.import_resolver.specs.Loaded.{rows_of}
use Rattle.source_scopes.specs.Declarations.{components_among}
use Rattle.source_scopes.proofs.Filling.{files_turn}
use Rattle.source_scopes.proofs.declarations.components_of.Goals as goal

pub loop-file-preserved : goal.loop-file-preserved
loop-file-preserved c = files_turn components_among (rows_of c.args.loaded.now) c.loop-file.file [] _ _ _ (λ n. refl) c.in_ok-made.ensures c.items_at.ensures c.loop-file.invariant
