use Rattle.std.proofs.Common.{rules}
use Rattle.value_types.proofs.Sames.{next_same}
use Rattle.value_types.proofs.sameness.same_places.Goals as goal

pub loop-place-preserved : goal.loop-place-preserved
loop-place-preserved c =
    let e = c.same_rows.ensures.0 c.if-not-same_rows.false in
    (c.loop-place.invariant.0, next_same c.args.a.now c.args.b.now c.loop-place.place c.rows-item.result c.in-Some.others.now (search rules) (search rules) (search rules) e c.loop-place.invariant.1)
