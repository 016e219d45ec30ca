use Rattle.source_reader.proofs.Readings.{has_reading}
use Rattle.source_reader.proofs.laws.some_reading.Goals as goal

pub returns : goal.returns
returns c = has_reading c.tokens_or_fault.ensures c.tree_or_fault.ensures.one
