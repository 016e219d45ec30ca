use Rattle.std.proofs.Common.{Option, ℕ, List, ap}
use Rattle.alias_merge.specs.Choosing.{class_of, lesser}
use Rattle.alias_merge.specs.ChoosingSteps.{depths_of, grouped}
use Rattle.alias_merge.proofs.Grouping.{grouped_turn}
use Rattle.alias_merge.proofs.Passes.{fold_end}
use Rattle.alias_merge.proofs.choosing.depths.Goals as goal

pub loop-candidate-init : goal.loop-candidate-init
loop-candidate-init c = ap (λ (now : List (Option ℕ)). grouped lesser (class_of c.args.labels.now c.args.homes.now) now c.args.candidates.now) c.in_ok-depths.ensures

pub loop-candidate-preserved : goal.loop-candidate-preserved
loop-candidate-preserved c =
    grouped_turn lesser (class_of c.args.labels.now c.args.homes.now) c.loop-candidate.depths c.note_depth.new.depths (depths_of c.args.labels.now c.args.homes.now c.args.candidates.now)
    c.args.candidates.now c.loop-candidate.candidate-index _ c.class_of-class.result c.loop-candidate-test.true c.loop-candidate.invariant c.class_of-class.ensures c.note_depth.ensures

pub returns : goal.returns
returns c = fold_end _ c.loop-candidate.depths _ c.args.candidates.now c.loop-candidate.candidate-index c.loop-candidate-test.false c.loop-candidate.invariant
