-- How a net is told from another: it is coded as its parts.
use Rattle.std.specs.Prelude.{◌≡◌, ℕ, List, Option, Some, None, ◌⊎◌, refl}
use Rattle.std.proofs.Common.{inl, inr}
use Rattle.std.specs.Coded.{Coded, code_by, coded_ℕ, coded_list, coded×, coded⊎, coded_option}
use Rattle.value_types.specs.declared.values.Value.{Value}
use Rattle.value_types.specs.contracts.values.Value as value
use Rattle.value_types.specs.declared.facets.Facet.{Facet}
use Rattle.value_types.specs.contracts.facets.Facet as facet
use Rattle.property_cells.specs.Net.{Cell, no_cell, invalid_cell, running_cell, valid_cell, assigned_cell, Net}

-- a cell with a value, by that value, and one without by a number
abbrev Parts : Type 0
Parts = Option (Value ⊎ Value) ⊎ Option ℕ

abbrev parts : Cell → Parts
parts no_cell = inl None
parts invalid_cell = inr None
parts running_cell = inr (Some 0)
parts (valid_cell v) = inl (Some (inl v))
parts (assigned_cell v) = inl (Some (inr v))

abbrev whole : Parts → Cell
whole (inl None) = no_cell
whole (inl (Some (inl v))) = valid_cell v
whole (inl (Some (inr v))) = assigned_cell v
whole (inr None) = invalid_cell
whole (inr (Some n)) = running_cell

pub whole_parts : (c : Cell) → whole (parts c) ≡ c
whole_parts no_cell = refl
whole_parts invalid_cell = refl
whole_parts running_cell = refl
whole_parts (valid_cell v) = refl
whole_parts (assigned_cell v) = refl

abbrev pub cell_code : Coded Cell
cell_code = code_by Parts (coded⊎ (coded_option (coded⊎ value.the_row.coded value.the_row.coded)) (coded_option coded_ℕ)) parts whole whole_parts

abbrev pub net_code : Coded Net
net_code =
    code_by (List Cell × (List (ℕ × (ℕ × Facet)) × (List ℕ × ℕ)))
    (coded× (coded_list cell_code) (coded× (coded_list (coded× coded_ℕ (coded× coded_ℕ facet.the_row.coded))) (coded× (coded_list coded_ℕ) coded_ℕ)))
    (λ n. (n.cells, (n.pairs, (n.running, n.runs))))
    (λ p. record { cells = p.0; pairs = p.1.0; running = p.1.1.0; runs = p.1.1.1 })
    (λ _. refl)
