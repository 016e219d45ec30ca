use Rattle.std.proofs.Common.{◌≡◌, drop, map, length}
use Rattle.type_rules.specs.Conversions.{same_fields, same_type}
use Rattle.type_rules.proofs.sameness.+same.Given as goal

-- the fields are the same if those that are left are
abbrev pub invariant-same_fields-loop-place : goal.invariant-same_fields-loop-place
invariant-same_fields-loop-place l = (length l.fields ≡ length l.others)
    × (same_fields (map (λ field. (field.0, same_type field.1)) l.fields) l.others ≡ same_fields (map (λ field. (field.0, same_type field.1)) (drop l.place l.fields)) (drop l.place l.others))
