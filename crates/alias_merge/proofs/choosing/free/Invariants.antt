use Rattle.std.proofs.Common.{◌≡◌, ◌++◌, drop}
use Rattle.alias_merge.specs.ChoosingSteps.{free_of}
use Rattle.alias_merge.proofs.choosing.free.Given as goal

abbrev pub invariant-loop-candidate : goal.invariant-loop-candidate
invariant-loop-candidate l = l.free ++ free_of l.ahead (drop l.candidate-index l.candidates) ≡ free_of l.ahead l.candidates
