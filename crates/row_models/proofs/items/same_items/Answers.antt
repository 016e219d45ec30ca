use Rattle.std.proofs.Common.{rules}
use Rattle.value_types.proofs.Sames.{next_same}
use Rattle.row_models.proofs.items.same_items.Goals as goal

pub loop-place-preserved : goal.loop-place-preserved
loop-place-preserved c =
    let e = c.same.ensures.0 c.if-not-same.false in
    (c.loop-place.invariant.0, next_same c.args.a.now c.args.b.now c.loop-place.place c.index-a-place.result c.in-Some.other.now (search rules) (search rules) (search rules) e c.loop-place.invariant.1)
