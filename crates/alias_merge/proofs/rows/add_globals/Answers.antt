use Rattle.alias_merge.specs.Rows.{rows_of_global}
use Rattle.alias_merge.proofs.Listing.{number_turn}
use Rattle.alias_merge.proofs.rows.add_globals.Goals as goal

pub loop-number-preserved : goal.loop-number-preserved
loop-number-preserved c =
    number_turn rows_of_global c.args.globals.now c.loop-number.number c.index-globals-number.result c.args.rows.now c.loop-number.rows c.add_global.new.rows c.loop-number-test.true c.index-globals-number.is c.loop-number.invariant c.in_ok-add_global.ensures
