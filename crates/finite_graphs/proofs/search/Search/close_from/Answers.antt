use Rattle.finite_graphs.proofs.Searching.{none_reach}
use Rattle.finite_graphs.proofs.search.Search.close_from.Goals as goal

pub open-requires-clause-reached : goal.open-requires-clause-reached
open-requires-clause-reached c = none_reach c.args.node c.requires.state c.requires.whole
