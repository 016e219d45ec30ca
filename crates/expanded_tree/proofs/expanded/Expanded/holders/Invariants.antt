use Rattle.std.proofs.Common.{◌≡◌, ◌++◌, drop}
use Rattle.std.specs.List.{flat_map}
use Rattle.expanded_tree.specs.Components.{each_below}
use Rattle.expanded_tree.specs.Items.{holders_in_order, layers_of, of_global}
use Rattle.expanded_tree.proofs.expanded.Expanded.holders.Given as goal

abbrev pub invariant-globals : goal.invariant-globals
invariant-globals l = l.holders ≡ each_below of_global l.global

abbrev pub invariant-elements : goal.invariant-elements
invariant-elements l = l.holders ++ flat_map (layers_of l.self) (drop l.element-index l.self.elements) ≡ holders_in_order l.self
