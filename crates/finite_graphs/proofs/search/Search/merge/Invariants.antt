use Rattle.std.proofs.Common.{◌≡◌, length}
use Rattle.finite_graphs.proofs.Merging.{Merging}
use Rattle.finite_graphs.proofs.search.Search.merge.Given as goal

-- of the groups no one is gone that begins at the place or before, and nothing else changed
abbrev pub invariant-loop-group : goal.invariant-loop-group
invariant-loop-group l = record {
  groups : Merging l.initial.self.groups l.self.groups l.place;
  others : l.self ≡ record l.initial.self { groups = l.self.groups };
}

abbrev pub decreases-loop-group : goal.decreases-loop-group
decreases-loop-group l = length l.self.groups
