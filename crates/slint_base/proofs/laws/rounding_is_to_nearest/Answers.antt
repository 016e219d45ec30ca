use Rattle.slint_base.proofs.Nearest.{near_size_nearest}
use Rattle.slint_base.proofs.laws.rounding_is_to_nearest.Goals as goal

pub returns : goal.returns
returns c = near_size_nearest
