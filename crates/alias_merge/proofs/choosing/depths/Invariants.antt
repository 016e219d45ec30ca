use Rattle.std.proofs.Common.{◌≡◌, drop}
use Rattle.alias_merge.specs.Choosing.{class_of, lesser}
use Rattle.alias_merge.specs.ChoosingSteps.{depths_of, grouped}
use Rattle.alias_merge.proofs.choosing.depths.Given as goal

-- with the candidates that are left the depths become those of all
abbrev pub invariant-loop-candidate : goal.invariant-loop-candidate
invariant-loop-candidate l = grouped lesser (class_of l.labels l.homes) l.depths (drop l.candidate-index l.candidates) ≡ depths_of l.labels l.homes l.candidates
