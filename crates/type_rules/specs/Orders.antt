-- The order of the names of fields.
use Rattle.std.specs.Prelude.{ℕ, Bool, true, List, Option, Some, None}
use Rattle.std.specs.Ordering.{is_lt}
use Rattle.value_types.specs.declared.types.Ty.{Ty}
use Rattle.element_tables.specs.Rows.{byte_order}

-- a name is below that of the next field, if there is one
abbrev pub is_below_next : List ℕ → Option (List ℕ × Ty) → Bool
is_below_next name None = true
is_below_next name (Some field) = is_lt (byte_order name field.0)
