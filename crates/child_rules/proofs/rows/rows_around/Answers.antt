use Rattle.child_rules.proofs.Outwards.{names_go, names_last}
use Rattle.child_rules.proofs.rows.rows_around.Goals as goal

pub loop-preserved : goal.loop-preserved
loop-preserved c = names_go c.args.elements.now _ _ c.in-Some.outer c.loop.rows c.push_names_at.new.rows c.loop-test.true c.loop.invariant c.in-Some.is c.in_ok-push_names_at.ensures c.parent_of-around.ensures

pub returns : goal.returns
returns c = names_last c.args.elements.now _ _ c.loop.rows c.loop.around c.loop-test.false c.loop.invariant
