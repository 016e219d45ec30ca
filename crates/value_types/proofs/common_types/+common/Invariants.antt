use Rattle.std.proofs.Common.{◌≡◌, ◌++◌, drop, map}
use Rattle.std.specs.Option.{option_map}
use Rattle.value_types.specs.Conversions.{all_of}
use Rattle.value_types.specs.CommonTypes.{sides, left_field, right_field}
use Rattle.value_types.proofs.common_types.+common.Given as goal

-- the fields are those made so far and what is left of them
abbrev pub invariant-left_fields-loop-field : goal.invariant-left_fields-loop-field
invariant-left_fields-loop-field l =
    all_of (map (left_field l.others) (sides l.fields)) ≡ option_map (λ rest. l.made ++ rest) (all_of (map (left_field l.others) (sides (drop l.field-index l.fields))))

-- the fields are those made so far and what is left of them
abbrev pub invariant-right_fields-loop-other : goal.invariant-right_fields-loop-other
invariant-right_fields-loop-other l =
    all_of (map (right_field (sides l.fields)) l.others) ≡ option_map (λ rest. l.made ++ rest) (all_of (map (right_field (sides l.fields)) (drop l.other-index l.others)))
