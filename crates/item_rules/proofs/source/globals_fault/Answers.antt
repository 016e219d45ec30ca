use Rattle.source_scopes.specs.Shown.{shown_global}
use Rattle.item_rules.specs.Items.{global_faults}
use Rattle.item_rules.proofs.Turns.{shown_end, shown_turn}
use Rattle.item_rules.proofs.source.globals_fault.Goals as goal

pub loop-number-preserved : goal.loop-number-preserved
loop-number-preserved c = shown_turn shown_global (global_faults c.args.names.now) c.args.globals.now c.loop-number.number c.index-globals-number.result c.loop-number.first c.earlier-first.result c.index-globals-number.is c.loop-number-test.true c.in_ok-fault.ensures c.earlier-first.ensures c.loop-number.invariant

pub returns : goal.returns
returns c = shown_end shown_global (global_faults c.args.names.now) c.args.globals.now c.loop-number.number c.loop-number.first c.loop-number-test.false c.loop-number.invariant
