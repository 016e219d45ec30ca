use Rattle.std.proofs.Common.{◌≡◌, drop}
use Rattle.alias_merge.specs.Choosing.{class_of}
use Rattle.alias_merge.specs.ChoosingSteps.{chosen_of, grouped, sooner}
use Rattle.alias_merge.proofs.choosing.chosen.Given as goal

-- with the candidates that are left the choices become those of all
abbrev pub invariant-loop-candidate : goal.invariant-loop-candidate
invariant-loop-candidate l = grouped sooner (class_of l.labels l.homes) l.chosen (drop l.candidate-index l.candidates) ≡ chosen_of l.labels l.homes l.candidates
