use Rattle.std.proofs.Common.{Option, List, ap}
use Rattle.alias_merge.specs.declared.candidate.Candidate.{Candidate}
use Rattle.alias_merge.specs.Choosing.{class_of}
use Rattle.alias_merge.specs.ChoosingSteps.{chosen_of, grouped, sooner}
use Rattle.alias_merge.proofs.Grouping.{grouped_turn}
use Rattle.alias_merge.proofs.Passes.{fold_end}
use Rattle.alias_merge.proofs.choosing.chosen.Goals as goal

pub loop-candidate-init : goal.loop-candidate-init
loop-candidate-init c = ap (λ (now : List (Option Candidate)). grouped sooner (class_of c.args.labels.now c.args.homes.now) now c.args.candidates.now) c.in_ok-chosen.ensures

pub loop-candidate-preserved : goal.loop-candidate-preserved
loop-candidate-preserved c =
    grouped_turn sooner (class_of c.args.labels.now c.args.homes.now) c.loop-candidate.chosen c.note_choice.new.chosen (chosen_of c.args.labels.now c.args.homes.now c.args.candidates.now)
    c.args.candidates.now c.loop-candidate.candidate-index _ c.class_of-class.result c.loop-candidate-test.true c.loop-candidate.invariant c.class_of-class.ensures c.note_choice.ensures

pub returns : goal.returns
returns c = fold_end _ c.loop-candidate.chosen _ c.args.candidates.now c.loop-candidate.candidate-index c.loop-candidate-test.false c.loop-candidate.invariant
