use Rattle.std.proofs.Common.{◌≡◌, ◌++◌, drop}
use Rattle.alias_merge.specs.ChoosingSteps.{shallow_of}
use Rattle.alias_merge.proofs.choosing.shallow.Given as goal

abbrev pub invariant-loop-candidate : goal.invariant-loop-candidate
invariant-loop-candidate l = l.shallow ++ shallow_of l.labels l.homes l.depths (drop l.candidate-index l.candidates) ≡ shallow_of l.labels l.homes l.depths l.candidates
