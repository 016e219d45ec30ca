use Rattle.expr_reads.proofs.ItemsExact.{exact_items, exact_repeats}
use Rattle.expr_reads.proofs.laws.names_of_items_are_exact.Goals as goal

pub returns : goal.returns
returns c = record { items = exact_items; repeats = exact_repeats }
