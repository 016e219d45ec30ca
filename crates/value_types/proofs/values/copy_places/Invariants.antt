use Rattle.std.proofs.Common.{◌≡◌, take}
use Rattle.value_types.proofs.values.copy_places.Given as goal

-- the rows so far
abbrev pub invariant-loop-rows : goal.invariant-loop-rows
invariant-loop-rows l = l.made ≡ take l.rows-index l.places
