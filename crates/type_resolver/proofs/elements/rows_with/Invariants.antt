use Rattle.std.proofs.Common.{◌≡◌, ◌∷◌, take}
use Rattle.type_resolver.proofs.elements.rows_with.Given as goal

-- the first name, and the others so far
abbrev pub invariant-loop-names : goal.invariant-loop-names
invariant-loop-names l = l.all ≡ l.fn.first ∷ take l.names-index l.rows
