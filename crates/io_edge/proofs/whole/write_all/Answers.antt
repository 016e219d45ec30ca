use Rattle.std.proofs.Common.{length, ap, ◌∙◌, arith}
use Rattle.std.proofs.lemmas.List.{take_rest, length-drop}
use Rattle.io_edge.proofs.Told.{Appends-next}
use Rattle.io_edge.proofs.whole.write_all.Goals as goal

pub loop-at-preserved : goal.loop-at-preserved
loop-at-preserved g c =
    let bytes = c.args.bytes.now in
    let at = c.loop-at.at in
    let n = c.in_ok-count.count in
    let rest = take_rest bytes at in
    let len = ap length rest in
    record {
      inside = omega (arith, len, length-drop at bytes, c.in_ok-count.ensures.bound);
      taken = Appends-next _ _ _ bytes _ at n rest c.loop-at.invariant.taken c.in_ok-count.ensures.added;
      counted = c.in_ok-count.ensures.counted.1 (omega arith) ∙ c.loop-at.invariant.counted;
      steady = λ h.
          let before = c.loop-at.invariant.steady h in
          let now = c.in_ok-count.ensures.steady before.0 in
          (now.0, now.1 ∙ before.1);
    }
