use Rattle.std.proofs.Common.{◌≡◌, ◌++◌, drop}
use Rattle.std.specs.Prelude.{map}
use Rattle.alias_merge.specs.ChoosingSteps.{turn}
use Rattle.alias_merge.proofs.choosing.turned.Given as goal

-- with the links that are left the turned ones become all
abbrev pub invariant-loop-link : goal.invariant-loop-link
invariant-loop-link l = record {
  nodes : l.turned.nodes ≡ l.links.nodes;
  edges : l.turned.edges ++ map turn (drop l.link-index l.link-items) ≡ map turn l.links.edges;
}
