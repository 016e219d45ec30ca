use Rattle.std.proofs.Common.{◌≡◌, take}
use Rattle.std.specs.List.{flat_map}
use Rattle.alias_merge.specs.Candidates.{bindings_at}
use Rattle.alias_merge.proofs.candidates.bindings.Given as goal

-- those of the holders so far
abbrev pub invariant-loop-holder : goal.invariant-loop-holder
invariant-loop-holder l = l.found ≡ flat_map (bindings_at l.expanded l.numbers) (take l.holder-index l.holders)
