use Rattle.std.proofs.Common.{◌∙◌, ap, map, subst, sym}
use Rattle.fault_order.specs.Order.{first_of}
use Rattle.source_scopes.specs.Shown.{shown_component}
use Rattle.child_rules.specs.Ends.{AreEnds}
use Rattle.child_rules.specs.Source.{component_faults}
use Rattle.child_rules.proofs.ByEnds.{faults_by}
use Rattle.child_rules.proofs.Mapped.{mapped_end, mapped_turn}
use Rattle.child_rules.proofs.source.declared_fault.Goals as goal

pub loop-number-preserved : goal.loop-number-preserved
loop-number-preserved c = mapped_turn shown_component (component_faults (map shown_component c.args.declared.now) c.args.places.now) c.args.declared.now c.loop-number.number c.index-declared-number.result c.loop-number.first c.earlier-first.result c.index-declared-number.is c.loop-number-test.true
    (c.in_ok-fault.ensures ∙ ap first_of (faults_by (map shown_component c.args.declared.now) c.args.places.now c.as_slice-ends.result.now
    (subst (AreEnds (map shown_component c.args.declared.now) c.args.places.now.comps) (sym c.as_slice-ends.ensures) c.in_ok-table.ensures) c.loop-number.number (shown_component c.index-declared-number.result)))
    c.earlier-first.ensures c.loop-number.invariant

pub returns : goal.returns
returns c = mapped_end shown_component (component_faults (map shown_component c.args.declared.now) c.args.places.now) c.args.declared.now c.loop-number.number c.loop-number.first c.loop-number-test.false c.loop-number.invariant
