use Rattle.finite_graphs.proofs.Lists.{at_here}
use Rattle.finite_graphs.proofs.search.look_at.Goals as goal

pub returns : goal.returns
returns c = at_here c.args.places.now c.args.node _ c.requires
