use Rattle.std.proofs.Common.{Option, ℕ, List, ap, ◌∙◌, length, None}
use Rattle.std.specs.Prelude.{replicate}
use Rattle.alias_merge.specs.Changes.{label_of}
use Rattle.alias_merge.specs.ChangesSteps.{keep_first}
use Rattle.alias_merge.specs.ChoosingSteps.{grouped}
use Rattle.alias_merge.proofs.Changing.{lists_are}
use Rattle.alias_merge.proofs.Grouping.{grouped_turn}
use Rattle.alias_merge.proofs.Passes.{fold_end}
use Rattle.alias_merge.proofs.changes.changed_by.Goals as goal

pub loop-change-init : goal.loop-change-init
loop-change-init c = ap (λ (now : List (Option ℕ)). grouped keep_first (label_of c.args.labels.now) now c.args.changes.now) c.in_ok-lists.ensures

pub loop-change-preserved : goal.loop-change-preserved
loop-change-preserved c =
    grouped_turn keep_first (label_of c.args.labels.now) c.loop-change.lists c.note_list.new.lists (grouped keep_first (label_of c.args.labels.now) (replicate (length c.args.labels.now) None) c.args.changes.now)
    c.args.changes.now c.loop-change.change-index _ c.copied-class.result c.loop-change-test.true c.loop-change.invariant (c.copied-class.ensures ∙ c.at.ensures) c.note_list.ensures

pub returns : goal.returns
returns c =
    fold_end _ c.loop-change.lists _ c.args.changes.now c.loop-change.change-index c.loop-change-test.false c.loop-change.invariant ∙ lists_are c.args.labels.now c.args.changes.now
