use Rattle.std.proofs.Common.{w64, subst}
use Rattle.std.proofs.lemmas.Int.{to_z-of_z}
use Rattle.layout_solve.proofs.Wide.{IsHeld}
use Rattle.layout_solve.proofs.Sharing.{IsRoom, room_fits, divided-by}
use Rattle.layout_solve.proofs.boxes.solve_box.Goals as goal

read : (c : goal.After-total) → IsRoom c.sizing_for-sizing.result c.args.room c.args.items.now c.from.result c.total.result
read c =
    let h : IsHeld c.total.result = record { low = c.total.ensures.low; high = c.total.ensures.high } in
    record {
      within = c.requires.room;
      held = subst IsHeld c.total.ensures.sum h;
      given = c.from.ensures;
      taken = c.total.ensures.sum;
    }

pub overflow_sub-rest : goal.overflow_sub-rest
overflow_sub-rest c = room_fits _ _ _ _ _ (read c)

pub returns : goal.returns
returns c =
    let h : IsHeld c.total.result = record { low = c.total.ensures.low; high = c.total.ensures.high } in
    let r : IsRoom c.sizing_for-sizing.result c.args.room c.args.items.now c.from.result c.total.result = record {
      within = c.requires.room;
      held = subst IsHeld c.total.ensures.sum h;
      given = c.from.ensures;
      taken = c.total.ensures.sum;
    }
    in
    let sizing = c.sizing_for-sizing.result in (
      sizing,
      rw (to_z-of_z w64 c.args.room c.ranges.room) at c.sizing_for-sizing.ensures,
      divided-by sizing c.args.room c.args.items.now _ _ c.max.result _ r c.max.ensures.value c.share.ensures,
    )
