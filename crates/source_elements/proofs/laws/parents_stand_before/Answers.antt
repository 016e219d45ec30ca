use Rattle.source_elements.proofs.Before.{parent_before}
use Rattle.source_elements.proofs.laws.parents_stand_before.Goals as goal

pub returns : goal.returns
returns c = parent_before
