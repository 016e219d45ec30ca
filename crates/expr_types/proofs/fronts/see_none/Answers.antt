use Rattle.expr_types.proofs.Telling.{empty_seen}
use Rattle.expr_types.proofs.fronts.see_none.Goals as goal

pub returns : goal.returns
returns c = empty_seen c.new.ensures
