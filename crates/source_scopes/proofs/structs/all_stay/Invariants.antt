use Rattle.std.proofs.Common.{ℕ, ◌<◌}
use Rattle.import_resolver.specs.Loaded.{rows_of}
use Rattle.source_scopes.specs.Structs.{StaysOut, type_at}
use Rattle.source_scopes.proofs.structs.all_stay.Given as goal

-- those so far stay out
abbrev pub invariant-loop-number : goal.invariant-loop-number
invariant-loop-number l = (s : ℕ) → s < l.number → StaysOut (rows_of l.loaded) l.types s (type_at l.types s)
