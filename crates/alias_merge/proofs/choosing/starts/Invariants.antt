use Rattle.std.proofs.Common.{◌≡◌, drop}
use Rattle.alias_merge.specs.ChoosingSteps.{start_of, starts_of, with_marks}
use Rattle.alias_merge.proofs.choosing.starts.Given as goal

-- with the links that are left the marks become those of all
abbrev pub invariant-loop-link : goal.invariant-loop-link
invariant-loop-link l = with_marks (start_of l.marks) l.starts (drop l.link-index l.link-items) ≡ starts_of l.links.nodes l.marks l.links.edges
