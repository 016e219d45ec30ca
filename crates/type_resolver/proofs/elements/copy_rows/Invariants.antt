use Rattle.std.proofs.Common.{◌≡◌, take}
use Rattle.type_resolver.proofs.elements.copy_rows.Given as goal

-- the names so far
abbrev pub invariant-loop-names : goal.invariant-loop-names
invariant-loop-names l = l.same ≡ take l.names-index l.rows
