use Rattle.std.proofs.Common.{Option, List, ap, ◌∙◌, length, None}
use Rattle.std.specs.Prelude.{replicate}
use Rattle.fault_order.specs.Order.{first_of}
use Rattle.alias_merge.specs.declared.changes.Seen.{Seen}
use Rattle.alias_merge.specs.ChangesSteps.{faults_seen}
use Rattle.alias_merge.proofs.Changing.{fault_end, fault_turn, faults_are}
use Rattle.alias_merge.proofs.changes.first_change_fault.Goals as goal

pub loop-change-init : goal.loop-change-init
loop-change-init c = ap (λ (now : List (Option Seen)). first_of (faults_seen c.args.labels.now c.args.homes.now c.args.lists.now now c.args.changes.now)) c.in_ok-seen.ensures

pub loop-change-preserved : goal.loop-change-preserved
loop-change-preserved c =
    fault_turn c.args.labels.now c.args.homes.now c.args.lists.now c.loop-change.seen c.as_slice.result.now c.note_change.new.seen c.args.changes.now c.loop-change.change-index _ c.copied-class.result c.loop-change.first c.fault_of-fault.result
    c.earlier-first.result (first_of (faults_seen c.args.labels.now c.args.homes.now c.args.lists.now (replicate (length c.args.labels.now) None) c.args.changes.now)) c.loop-change-test.true c.loop-change.invariant
    (c.copied-class.ensures ∙ c.at.ensures) c.as_slice.ensures c.fault_of-fault.ensures c.earlier-first.ensures c.note_change.ensures

pub returns : goal.returns
returns c = λ small order.
    fault_end c.args.labels.now c.args.homes.now c.args.lists.now c.loop-change.seen c.args.changes.now c.loop-change.change-index c.loop-change.first
    (first_of (faults_seen c.args.labels.now c.args.homes.now c.args.lists.now (replicate (length c.args.labels.now) None) c.args.changes.now)) c.loop-change-test.false c.loop-change.invariant
    ∙ ap first_of (faults_are c.args.labels.now c.args.homes.now c.args.lists.now small c.args.changes.now order)
