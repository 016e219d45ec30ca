use Rattle.source_reader.proofs.Fronts.{front_reads, front_refused, front_whole}
use Rattle.source_reader.proofs.laws.fronts_read.Goals as goal

pub returns : goal.returns
returns c = record { alike = front_reads; refused = front_refused; whole = front_whole }
