use Rattle.std.proofs.Common.{None}
use Rattle.finite_graphs.specs.declared.search.Standing.TheVariants.{New}
use Rattle.finite_graphs.specs.Walks.{At}
use Rattle.finite_graphs.specs.Searching.{FewerNew, Holds, load}
use Rattle.finite_graphs.proofs.search.Search.close_from.Given as goal

-- the search goes on, and the node isn't new any more
abbrev pub invariant-loop-group : goal.invariant-loop-group
invariant-loop-group l = record {
  state : Holds l.rows None l.self;
  fewer : FewerNew l.initial.self.places l.self.places;
  met : At New l.self.places l.node → ⊥;
}

abbrev pub decreases-loop-group : goal.decreases-loop-group
decreases-loop-group l = load l.self
