use Rattle.source_reader.proofs.Readings.{reading_rule}
use Rattle.source_reader.proofs.laws.reading_rules.Goals as goal

pub returns : goal.returns
returns c = reading_rule c.token_rules.ensures
