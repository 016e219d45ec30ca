use Rattle.import_resolver.specs.Loaded.{rows_of}
use Rattle.source_scopes.specs.Structs.{AreTyped}
use Rattle.source_scopes.proofs.structs.types_in_order.Given as goal

-- the structs so far
abbrev pub invariant-loop-number : goal.invariant-loop-number
invariant-loop-number l = AreTyped (rows_of l.loaded) l.number-index l.types
