use Rattle.std.proofs.Common.{◌≡◌, ◌++◌, drop, map}
use Rattle.expr_rules.specs.Own.{field_type}
use Rattle.expr_rules.proofs.collections.field_types.Given as goal

-- the types are those so far and those of the fields that are left
abbrev pub invariant-loop-field : goal.invariant-loop-field
invariant-loop-field l = map field_type l.fields ≡ l.types.items ++ map field_type (drop l.field-index l.fields)
