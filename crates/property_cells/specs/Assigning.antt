-- The items of a value that is assigned row by row.
use Rattle.std.specs.Prelude.{List}
use Rattle.value_types.specs.declared.values.Value.{Value}
use Rattle.value_types.specs.declared.values.Value.{out-Value}
use Rattle.property_cells.specs.Net.{array_in}

abbrev pub array_items : Value → List Value
array_items v = array_in (out-Value v)
