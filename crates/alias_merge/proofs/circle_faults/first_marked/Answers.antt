use Rattle.std.proofs.Common.{◌≡◌, ◌∙◌, ℕ, Bool, List, Option, ap, get_or, refl}
use Rattle.std.specs.Prelude.{slice_get}
use Rattle.slint_base.specs.declared.faults.Fault.{Fault}
use Rattle.slint_base.specs.declared.rules.Rule.{Rule}
use Rattle.fault_order.specs.Order.{first_of}
use Rattle.fault_order.proofs.Told.{numbered_end, numbered_turn}
use Rattle.alias_merge.specs.declared.circle_faults.Spanned.{Spanned}
use Rattle.alias_merge.specs.CircleFaults.{fault_if_set, is_set, marked_fault}
use Rattle.alias_merge.proofs.CircleMarks.{no_edge, read_itself}
use Rattle.alias_merge.proofs.circle_faults.first_marked.Goals as goal

told_by : (rule : Rule) (marks : List Bool) (i : ℕ) (s : Spanned) (set : Bool) (fault : Option Fault) → set ≡ is_set (slice_get marks i) → fault ≡ first_of (fault_if_set rule set s.span) → fault ≡ first_of (marked_fault rule marks i s)
told_by rule marks i s set fault e told = told ∙ ap (λ b. first_of (fault_if_set rule b s.span)) e

pub loop-number-init : goal.loop-number-init
loop-number-init c = refl

pub loop-number-preserved : goal.loop-number-preserved
loop-number-preserved c =
    let s = get_or c.args.edges.now c.loop-number.number no_edge in
    numbered_turn (marked_fault c.args.rule c.args.marks.now) c.args.edges.now c.loop-number.number s c.loop-number.first c.earlier-first.result
    (read_itself c.args.edges.now c.loop-number.number no_edge c.loop-number-test.true) c.loop-number-test.true
    (told_by c.args.rule c.args.marks.now c.loop-number.number s c.is_set.result c.fault_if_set-fault.result c.is_set.ensures c.fault_if_set-fault.ensures) c.earlier-first.ensures c.loop-number.invariant

pub returns : goal.returns
returns c = numbered_end (marked_fault c.args.rule c.args.marks.now) c.args.edges.now c.loop-number.number c.loop-number.first c.loop-number-test.false c.loop-number.invariant
