use Rattle.std.specs.List.{flat_map}
use Rattle.expr_reads.specs.Names.{named_block, named_stmt}
use Rattle.expr_reads.proofs.Forms.{added, block_is}
use Rattle.expr_reads.proofs.block_names.+block_names.Goals as goal

pub named_in_block-returns : goal.named_in_block-returns
named_in_block-returns t c =
    added c.add_stmts.result c.args.found.now c.add_stmts.new.found (flat_map named_stmt c.as_slice.result.now) (named_block c.args.block.now) (block_is c.args.block.now c.as_slice.result.now c.as_slice.ensures) c.add_stmts.ensures
