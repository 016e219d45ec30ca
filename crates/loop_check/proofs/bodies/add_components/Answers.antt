use Rattle.std.proofs.Common.{List, ◌++◌, ◌∙◌, ap}
use Rattle.std.specs.List.{flat_map}
use Rattle.typed_tree.specs.declared.trees.TypedElement.{TypedElement}
use Rattle.loop_check.specs.declared.acts.Home.TheVariants as homes
use Rattle.loop_check.specs.Bodies.{bodies_of_element, component_bodies}
use Rattle.loop_check.proofs.Listing.{turn_from}
use Rattle.loop_check.proofs.bodies.add_components.Goals as goal

pub loop-number-preserved : goal.loop-number-preserved
loop-number-preserved c =
    turn_from component_bodies c.args.comps.now c.loop-number.number c.index-comps-number.result _ c.loop-number.bodies c.add_elements.new.bodies c.loop-number-test.true c.index-comps-number.is c.loop-number.invariant
    (c.in_ok-add_elements.ensures ∙ ap (λ (xs : List TypedElement). c.loop-number.bodies ++ flat_map (bodies_of_element (homes.Component c.loop-number.number)) xs) c.as_slice.ensures)
