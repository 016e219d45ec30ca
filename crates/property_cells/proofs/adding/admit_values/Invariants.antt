use Rattle.std.proofs.Common.{◌≡◌, ℕ, ◌-◌, ◌≤◌, length, get_or, None}
use Rattle.std.specs.Prelude.{vec_len}
use Rattle.property_cells.proofs.adding.admit_values.Given as goal

abbrev pub invariant-loop-values : goal.invariant-loop-values
invariant-loop-values l = record {
  same : (c : ℕ) → get_or l.values.items c None ≡ get_or l.initial.values.items c None;
  grown : length l.initial.values.items ≤ length l.values.items;
}

abbrev pub decreases-loop-values : goal.decreases-loop-values
decreases-loop-values l = l.cells - vec_len l.values
