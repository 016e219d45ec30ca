use Rattle.std.proofs.Common.{sym, ◌∙◌}
use Rattle.child_rules.proofs.Outwards.{repeated_goes, repeated_here, repeated_last}
use Rattle.child_rules.proofs.rows.is_in_rows.Goals as goal

pub loop-preserved : goal.loop-preserved
loop-preserved c = repeated_goes c.args.elements.now _ _ c.in-Some.outer c.loop-test.true c.loop.invariant c.in-Some.is (sym c.repeated_at.ensures ∙ c.if-repeated_at.false) c.parent_of-around.ensures

pub returns-then-repeated_at : goal.returns-then-repeated_at
returns-then-repeated_at c = repeated_here c.args.elements.now _ _ c.in-Some.outer c.loop-test.true c.loop.invariant c.in-Some.is (sym c.repeated_at.ensures ∙ c.if-repeated_at.true)

pub returns : goal.returns
returns c = repeated_last c.args.elements.now _ _ c.loop.around c.loop-test.false c.loop.invariant
