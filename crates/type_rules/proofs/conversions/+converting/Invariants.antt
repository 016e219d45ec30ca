use Rattle.std.proofs.Common.{◌≡◌, drop, map}
use Rattle.type_rules.specs.Conversions.{all_shared_to, converts}
use Rattle.type_rules.proofs.conversions.+converting.Given as goal

-- the fields convert if those that are left do
abbrev pub invariant-all_shared_to-loop-field : goal.invariant-all_shared_to-loop-field
invariant-all_shared_to-loop-field l =
    all_shared_to (map (λ field. (field.0, converts field.1)) l.fields) l.others ≡ all_shared_to (map (λ field. (field.0, converts field.1)) (drop l.field-index l.fields)) l.others
