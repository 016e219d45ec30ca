use Rattle.std.proofs.Common.{◌≡◌, ◌++◌, ◌==◌, string_bytes, map, take}
use Rattle.value_types.specs.Printed.{printed, listed, printed_field}
use Rattle.value_types.proofs.printing.+printing.Given as goal

-- the items so far stand behind what was there
abbrev pub invariant-push_items-loop-item : goal.invariant-push_items-loop-item
invariant-push_items-loop-item l =
    (l.is_first ≡ (l.item-index == 0)) × (string_bytes l.text ≡ string_bytes l.initial.text ++ listed (map (printed l.enums) (take l.item-index l.items)))

-- the fields so far stand behind what was there
abbrev pub invariant-push_fields-loop-field : goal.invariant-push_fields-loop-field
invariant-push_fields-loop-field l =
    (l.is_first ≡ (l.field-index == 0)) × (string_bytes l.text ≡ string_bytes l.initial.text ++ listed (map printed_field (map (λ field. (field.0, printed l.enums field.1)) (take l.field-index l.fields))))
