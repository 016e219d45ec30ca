use Rattle.finite_graphs.proofs.Searching.{top_is}
use Rattle.finite_graphs.proofs.search.top.Goals as goal

pub returns : goal.returns
returns c = top_is c.args.groups.now c.last.result c.copied.result c.last.ensures.value c.copied.ensures
