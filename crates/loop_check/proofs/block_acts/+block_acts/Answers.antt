use Rattle.std.specs.List.{flat_map}
use Rattle.loop_check.specs.Acts.{acts_in_block, acts_in_stmt}
use Rattle.loop_check.proofs.Forms.{added, block_is}
use Rattle.loop_check.proofs.block_acts.+block_acts.Goals as goal

pub add_block-returns : goal.add_block-returns
add_block-returns t c =
    added c.add_stmts.result c.args.acts.now c.add_stmts.new.acts (flat_map acts_in_stmt c.as_slice.result.now) (acts_in_block c.args.block.now) (block_is c.args.block.now c.as_slice.result.now c.as_slice.ensures) c.add_stmts.ensures
