use Rattle.layout_solve.proofs.OneWay.{one_way}
use Rattle.layout_solve.proofs.laws.room_is_shared_one_way.Goals as goal

pub returns : goal.returns
returns c = one_way
