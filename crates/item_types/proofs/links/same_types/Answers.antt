use Rattle.std.proofs.Common.{rules, sym}
use Rattle.item_types.proofs.Lists.{lengths_differ, no_place, types_differ, types_same}
use Rattle.item_types.proofs.links.same_types.Goals as goal

pub returns-then-types-others : goal.returns-then-types-others
returns-then-types-others c = sym (lengths_differ c.args.types.now c.args.others.now (search rules))

pub returns-in_default : goal.returns-in_default
returns-in_default c = absurd (no_place c.args.types.now c.args.others.now c.loop-place.place c.index-types-place.result c.loop-place.invariant.0 (search rules) (search rules))

pub returns-then-not-same_type : goal.returns-then-not-same_type
returns-then-not-same_type c =
    types_differ c.args.types.now c.args.others.now c.loop-place.place c.index-types-place.result c.in-Some.other.now _ (search rules) (search rules) (search rules) c.loop-place.invariant.1 (search rules)

pub loop-place-preserved : goal.loop-place-preserved
loop-place-preserved c = (
  c.loop-place.invariant.0,
  types_same c.args.types.now c.args.others.now c.loop-place.place c.index-types-place.result c.in-Some.other.now _ (search rules) (search rules) (search rules) c.loop-place.invariant.1 (search rules),
)
