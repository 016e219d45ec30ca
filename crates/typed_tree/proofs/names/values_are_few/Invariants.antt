use Rattle.std.proofs.Common.{ℕ, ◌<◌, ◌^◌, length, slice_get}
use Rattle.typed_tree.specs.Files.{values_in}
use Rattle.typed_tree.proofs.names.values_are_few.Given as goal

-- it is so of the enums so far
abbrev pub invariant-loop-names : goal.invariant-loop-names
invariant-loop-names l = (k : ℕ) → k < l.names-index → length (values_in (slice_get l.enums k)) < 2 ^ 32
