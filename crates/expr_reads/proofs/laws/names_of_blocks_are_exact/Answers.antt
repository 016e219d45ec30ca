use Rattle.expr_reads.proofs.BlocksExact.{exact_blocks, exact_values}
use Rattle.expr_reads.proofs.laws.names_of_blocks_are_exact.Goals as goal

pub returns : goal.returns
returns c = record { blocks = exact_blocks; values = exact_values }
