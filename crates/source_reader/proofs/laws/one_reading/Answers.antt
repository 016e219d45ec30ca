use Rattle.source_reader.proofs.Readings.{same_reading}
use Rattle.source_reader.proofs.laws.one_reading.Goals as goal

pub returns : goal.returns
returns c = same_reading c.one_answer.ensures.tokens c.one_answer.ensures.fault c.one_tree.ensures c.one_fault.ensures c.tree_or_fault.ensures.only_one
