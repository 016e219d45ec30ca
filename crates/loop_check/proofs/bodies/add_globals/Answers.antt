use Rattle.std.proofs.Common.{List, ◌++◌, ◌∙◌, ap}
use Rattle.std.specs.List.{flat_map}
use Rattle.typed_tree.specs.declared.trees.TypedItem.{TypedItem}
use Rattle.loop_check.specs.declared.acts.Home.TheVariants as homes
use Rattle.loop_check.specs.Bodies.{bodies_of_item, global_bodies}
use Rattle.loop_check.proofs.Listing.{turn_from}
use Rattle.loop_check.proofs.bodies.add_globals.Goals as goal

pub loop-number-preserved : goal.loop-number-preserved
loop-number-preserved c =
    turn_from global_bodies c.args.globals.now c.loop-number.number c.index-globals-number.result _ c.loop-number.bodies c.add_items.new.bodies c.loop-number-test.true c.index-globals-number.is c.loop-number.invariant
    (c.in_ok-add_items.ensures ∙ ap (λ (xs : List TypedItem). c.loop-number.bodies ++ flat_map (bodies_of_item (homes.Global c.loop-number.number)) xs) c.as_slice.ensures)
