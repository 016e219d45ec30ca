use Rattle.alias_merge.specs.Rows.{rows_of_element}
use Rattle.alias_merge.proofs.Listing.{copied_turn}
use Rattle.alias_merge.proofs.rows.add_elements.Goals as goal

pub loop-number-preserved : goal.loop-number-preserved
loop-number-preserved c =
    copied_turn rows_of_element c.args.elements.now c.loop-number.number _ c.args.rows.now c.loop-number.rows c.add_element.new.rows c.loop-number-test.true c.loop-number.invariant c.in_ok-add_element.ensures
