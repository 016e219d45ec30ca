use Rattle.value_reading.proofs.PrintedLists.{printed_reads}
use Rattle.value_reading.proofs.laws.printed_values_read.Goals as goal

pub returns : goal.returns
returns c = printed_reads
