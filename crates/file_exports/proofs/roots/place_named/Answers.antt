use Rattle.std.proofs.Common.{◌∙◌, sym}
use Rattle.file_exports.specs.Roots.{is_component_named}
use Rattle.file_exports.proofs.Places.{first_place-at, first_place-after}
use Rattle.file_exports.proofs.roots.place_named.Goals as goal

pub returns-then-is_component_named : goal.returns-then-is_component_named
returns-then-is_component_named c =
    sym (first_place-at (is_component_named c.args.name.now) c.args.items.now c.loop-place.place c.index-items-place.result c.loop-place-test.true c.index-items-place.is
    c.loop-place.invariant (sym c.is_component_named.ensures ∙ c.if-is_component_named.true))

pub loop-place-preserved : goal.loop-place-preserved
loop-place-preserved c =
    first_place-after (is_component_named c.args.name.now) c.args.items.now c.loop-place.place c.index-items-place.result c.loop-place-test.true c.index-items-place.is
    c.loop-place.invariant (sym c.is_component_named.ensures ∙ c.if-is_component_named.false)
