use Rattle.std.proofs.Common.{◌≡◌, ◌++◌, drop}
use Rattle.item_types.specs.Members.{locals}
use Rattle.item_types.proofs.parameters.handler_locals.Given as goal

-- those made so far, and those that are left
abbrev pub invariant-loop-place : goal.invariant-loop-place
invariant-loop-place l = l.made ++ locals (drop l.place l.names) (drop l.place l.types) ≡ locals l.names l.types
