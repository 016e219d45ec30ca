use Rattle.std.proofs.Common.{refl}
use Rattle.finite_graphs.specs.Reached.{set, stood}
use Rattle.finite_graphs.proofs.Spreading.{read_as}
use Rattle.finite_graphs.proofs.reached.spread_to.Goals as goal

pub returns-then-as_slice-to : goal.returns-then-as_slice-to
returns-then-as_slice-to c = stood (read_as c.args.to c.requires c.as_slice.ensures c.if-as_slice-to.true) refl refl

pub returns : goal.returns
returns c = set (read_as c.args.to c.requires c.as_slice.ensures c.if-as_slice-to.false) c.set.ensures c.in_ok-push.ensures.ok
