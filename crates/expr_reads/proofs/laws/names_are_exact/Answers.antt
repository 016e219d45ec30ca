use Rattle.expr_reads.proofs.Exact.{exact}
use Rattle.expr_reads.proofs.laws.names_are_exact.Goals as goal

pub returns : goal.returns
returns c = exact
