use Rattle.std.proofs.Common.{◌≡◌, drop}
use Rattle.alias_merge.specs.ChoosingSteps.{marks_of, member_of, with_marks}
use Rattle.alias_merge.proofs.choosing.marks.Given as goal

-- with the candidates that are left the marks become those of all
abbrev pub invariant-loop-candidate : goal.invariant-loop-candidate
invariant-loop-candidate l = with_marks member_of l.marks (drop l.candidate-index l.candidates) ≡ marks_of l.members l.candidates
