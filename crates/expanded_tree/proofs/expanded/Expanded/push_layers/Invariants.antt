use Rattle.std.proofs.Common.{◌≡◌, ◌++◌, length}
use Rattle.std.specs.Prelude.{map, reverse}
use Rattle.expanded_tree.specs.Items.{at_spot}
use Rattle.expanded_tree.proofs.expanded.Expanded.push_layers.Given as goal

abbrev pub invariant-outwards : goal.invariant-outwards
invariant-outwards l = l.holders ++ map at_spot (reverse l.layers) ≡ l.initial.holders ++ map at_spot (reverse l.initial.layers)

abbrev pub decreases-outwards : goal.decreases-outwards
decreases-outwards l = length l.layers
