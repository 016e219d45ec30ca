use Rattle.std.proofs.Common.{◌≡◌, take}
use Rattle.std.specs.Prelude.{map}
use Rattle.finite_graphs.specs.Searching.{label_of}
use Rattle.finite_graphs.proofs.walking.labels.Given as goal

abbrev pub invariant-loop-place : goal.invariant-loop-place
invariant-loop-place l = l.labels ≡ map label_of (take l.place-index l.places)
