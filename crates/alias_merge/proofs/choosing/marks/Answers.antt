use Rattle.std.proofs.Common.{Bool, List, ap}
use Rattle.alias_merge.specs.ChoosingSteps.{marks_of, member_of, with_mark, with_marks}
use Rattle.alias_merge.proofs.Passes.{fold_end, fold_turn}
use Rattle.alias_merge.proofs.choosing.marks.Goals as goal

pub loop-candidate-init : goal.loop-candidate-init
loop-candidate-init c = ap (λ (now : List Bool). with_marks member_of now c.args.candidates.now) c.in_ok-marks.ensures

pub loop-candidate-preserved : goal.loop-candidate-preserved
loop-candidate-preserved c =
    fold_turn (λ now x. with_mark now (member_of x)) c.loop-candidate.marks c.mark.new.marks (marks_of c.args.members c.args.candidates.now) c.args.candidates.now c.loop-candidate.candidate-index _
    c.loop-candidate-test.true c.loop-candidate.invariant c.mark.ensures

pub returns : goal.returns
returns c = fold_end _ c.loop-candidate.marks _ c.args.candidates.now c.loop-candidate.candidate-index c.loop-candidate-test.false c.loop-candidate.invariant
