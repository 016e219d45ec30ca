use Rattle.std.proofs.Common.{◌≡◌, ◌++◌, drop, map}
use Rattle.std.specs.Option.{option_map}
use Rattle.value_types.specs.Conversions.{converted, all_of, field_in}
use Rattle.value_types.proofs.converting.+converting.Given as goal

-- the items are those made so far and what is left of them
abbrev pub invariant-items_in-loop-item : goal.invariant-items_in-loop-item
invariant-items_in-loop-item l =
    all_of (map (λ convert. convert l.to) (map converted l.items)) ≡ option_map (λ rest. l.made ++ rest) (all_of (map (λ convert. convert l.to) (map converted (drop l.item-index l.items))))

-- the fields are those made so far and what is left of them
abbrev pub invariant-fields_in-loop-wanted : goal.invariant-fields_in-loop-wanted
invariant-fields_in-loop-wanted l =
    all_of (map (λ wanted. field_in (map (λ field. (field.0, converted field.1)) l.fields) wanted) l.to)
    ≡ option_map (λ rest. l.made ++ rest) (all_of (map (λ wanted. field_in (map (λ field. (field.0, converted field.1)) l.fields) wanted) (drop l.wanted-index l.to)))
