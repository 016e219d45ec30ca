use Rattle.std.proofs.Common.{◌≡◌, drop}
use Rattle.value_types.specs.Conversions.{names_within}
use Rattle.type_rules.proofs.conversions.names_within.Given as goal

-- the fields are among the others if those that are left are
abbrev pub invariant-loop-field : goal.invariant-loop-field
invariant-loop-field l = names_within l.fields l.others ≡ names_within (drop l.field-index l.fields) l.others
