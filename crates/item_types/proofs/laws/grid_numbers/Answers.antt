use Rattle.std.proofs.Common.{refl}
use Rattle.item_types.proofs.laws.grid_numbers.Goals as goal

pub returns-clause-sizes : goal.returns-clause-sizes
returns-clause-sizes c = refl

pub returns-clause-grid : goal.returns-clause-grid
returns-clause-grid c = refl
