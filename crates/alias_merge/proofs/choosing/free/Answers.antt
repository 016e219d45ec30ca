use Rattle.std.proofs.Common.{◌++◌, List, not, refl, sym, ap, ◌∙◌}
use Rattle.alias_merge.specs.declared.candidate.Candidate.{Candidate}
use Rattle.alias_merge.specs.ChoosingSteps.{free_of, is_unmarked}
use Rattle.alias_merge.proofs.Passes.{behind_end, kept_turn, passed_turn}
use Rattle.alias_merge.proofs.choosing.free.Goals as goal
use Rattle.alias_merge.proofs.choosing.free.Goals.{then-not-is_marked+in_ok-push, else-not-is_marked}

pub loop-candidate-init : goal.loop-candidate-init
loop-candidate-init c = ap (λ (now : List Candidate). now ++ free_of c.args.ahead.now c.args.candidates.now) c.new-free.ensures

pub loop-candidate-preserved : goal.loop-candidate-preserved
loop-candidate-preserved c =
    elim c.if-not-is_marked.branch [
      | then-not-is_marked+in_ok-push w ↦ kept_turn (is_unmarked c.args.ahead.now) c.loop-candidate.free c.if-not-is_marked.free (free_of c.args.ahead.now c.args.candidates.now) c.args.candidates.now c.loop-candidate.candidate-index _
          c.loop-candidate-test.true c.loop-candidate.invariant (ap not (sym c.is_marked.ensures ∙ w.if-not-is_marked.true)) (w.free-is ∙ w.in_ok-push.ensures.ok)
      | else-not-is_marked w ↦ passed_turn (is_unmarked c.args.ahead.now) c.loop-candidate.free c.if-not-is_marked.free (free_of c.args.ahead.now c.args.candidates.now) c.args.candidates.now c.loop-candidate.candidate-index _
          c.loop-candidate-test.true c.loop-candidate.invariant (ap not (sym c.is_marked.ensures ∙ w.if-not-is_marked.false)) w.free-is
    ]

pub returns : goal.returns
returns c = behind_end (free_of c.args.ahead.now) c.loop-candidate.free (free_of c.args.ahead.now c.args.candidates.now) c.args.candidates.now c.loop-candidate.candidate-index refl c.loop-candidate-test.false c.loop-candidate.invariant
