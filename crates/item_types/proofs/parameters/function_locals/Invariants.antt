use Rattle.std.proofs.Common.{◌≡◌, ◌++◌, drop}
use Rattle.item_types.specs.Members.{field_names, locals}
use Rattle.item_types.proofs.parameters.function_locals.Given as goal

-- those made so far, and those that are left
abbrev pub invariant-loop-place : goal.invariant-loop-place
invariant-loop-place l = l.made ++ locals (field_names (drop l.place l.fields)) (drop l.place l.types) ≡ locals (field_names l.fields) l.types
