use Rattle.std.proofs.Common.{◌≡◌, length}
use Rattle.finite_graphs.proofs.Labelling.{Labelling}
use Rattle.finite_graphs.proofs.search.Search.label_from.Given as goal

-- what is left of the path is its front, the rest has the label, and nothing else changed
abbrev pub invariant-loop-self : goal.invariant-loop-self
invariant-loop-self l = record {
  labels : Labelling l.initial.self.places l.self.places l.initial.self.path l.self.path l.start l.initial.self.count;
  others : l.self ≡ record l.initial.self { places = l.self.places; path = l.self.path };
}

abbrev pub decreases-loop-self : goal.decreases-loop-self
decreases-loop-self l = length l.self.path
