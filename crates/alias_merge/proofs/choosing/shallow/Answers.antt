use Rattle.std.proofs.Common.{◌++◌, List, refl, sym, ap, ◌∙◌}
use Rattle.alias_merge.specs.declared.candidate.Candidate.{Candidate}
use Rattle.alias_merge.specs.ChoosingSteps.{shallow_of, is_shallow}
use Rattle.alias_merge.proofs.Passes.{behind_end, kept_turn, passed_turn}
use Rattle.alias_merge.proofs.choosing.shallow.Goals as goal
use Rattle.alias_merge.proofs.choosing.shallow.Goals.{then-is_shallow+in_ok-push, else-is_shallow}

pub loop-candidate-init : goal.loop-candidate-init
loop-candidate-init c = ap (λ (now : List Candidate). now ++ shallow_of c.args.labels.now c.args.homes.now c.args.depths.now c.args.candidates.now) c.new-shallow.ensures

pub loop-candidate-preserved : goal.loop-candidate-preserved
loop-candidate-preserved c =
    elim c.if-is_shallow.branch [
      | then-is_shallow+in_ok-push w ↦ kept_turn (is_shallow c.args.labels.now c.args.homes.now c.args.depths.now) c.loop-candidate.shallow c.if-is_shallow.shallow (shallow_of c.args.labels.now c.args.homes.now c.args.depths.now c.args.candidates.now) c.args.candidates.now c.loop-candidate.candidate-index _ c.loop-candidate-test.true c.loop-candidate.invariant
          (sym c.is_shallow.ensures ∙ w.if-is_shallow.true) (w.shallow-is ∙ w.in_ok-push.ensures.ok)
      | else-is_shallow w ↦ passed_turn (is_shallow c.args.labels.now c.args.homes.now c.args.depths.now) c.loop-candidate.shallow c.if-is_shallow.shallow (shallow_of c.args.labels.now c.args.homes.now c.args.depths.now c.args.candidates.now) c.args.candidates.now c.loop-candidate.candidate-index _ c.loop-candidate-test.true c.loop-candidate.invariant
          (sym c.is_shallow.ensures ∙ w.if-is_shallow.false) w.shallow-is
    ]

pub returns : goal.returns
returns c = behind_end (shallow_of c.args.labels.now c.args.homes.now c.args.depths.now) c.loop-candidate.shallow (shallow_of c.args.labels.now c.args.homes.now c.args.depths.now c.args.candidates.now) c.args.candidates.now c.loop-candidate.candidate-index refl c.loop-candidate-test.false c.loop-candidate.invariant
