use Rattle.std.proofs.Common.{map}
use Rattle.source_scopes.specs.Shown.{shown_component}
use Rattle.child_rules.proofs.BackWays.{back_end, back_on, popped_none}
use Rattle.child_rules.proofs.ends.go_back.Goals as goal

pub loop-component-preserved : goal.loop-component-preserved
loop-component-preserved c = back_on (map shown_component c.args.declared.now) c.args.places.now.comps c.args.way.from c.in-Some.component c.loop-component.comps c.pop.new.self c.loop-component.cursor c.in_ok-cursor.cursor c.loop-component.known c.note.new.known
    c.loop-component.invariant c.in-Some.ensures c.in_ok-cursor.ensures c.note.ensures

pub returns-clause-is_end : goal.returns-clause-is_end
returns-clause-is_end c = back_end (map shown_component c.args.declared.now) c.args.places.now.comps c.args.way.from c.loop-component.comps c.loop-component.cursor c.loop-component.known c.loop-component.invariant
    (popped_none c.pop.result c.loop-component.comps c.pop.new.self c.in_default.is c.pop.ensures)
