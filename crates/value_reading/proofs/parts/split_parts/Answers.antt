use Rattle.std.proofs.Common.{refl, sym, subst, drop, get_or, ◌+◌}
use Rattle.value_reading.specs.Parts.{FindsAt, front_of}
use Rattle.value_reading.proofs.PartLemmas.{left_byte, finds_byte, splits_space, splits_part, splits_end, splits_not}
use Rattle.value_reading.proofs.parts.split_parts.Goals as goal

pub loop-at-preserved-then-text-at-eq32 : goal.loop-at-preserved-then-text-at-eq32
loop-at-preserved-then-text-at-eq32 c =
    splits_space c.args.text.now (drop (c.loop-at.at + 1) c.args.text.now) c.loop-at.made c.loop-at.at (left_byte c.args.text.now c.loop-at.at 32 c.loop-at-test.true (sym c.if-text-at-eq32.true)) c.loop-at-test.true c.loop-at.invariant

pub returns-in_default : goal.returns-in_default
returns-in_default c =
    let text = c.args.text.now in
    let at = c.loop-at.at in
    let left = left_byte text at (get_or text at 0) c.loop-at-test.true refl in
    let found = finds_byte (drop at text) _ (drop (at + 1) text) (get_or text at 0) c.in_ok-found.field-0 c.split_at.ensures.back left c.in_ok-found.ensures in
    splits_not text (drop (at + 1) text) (get_or text at 0) c.loop-at.made at left c.if-text-at-eq32.false (subst (λ o. FindsAt (front_of (get_or text at 0)) (get_or text at 0) (drop (at + 1) text) o) c.in_default.is found) c.loop-at.invariant

pub loop-at-preserved : goal.loop-at-preserved
loop-at-preserved c =
    let text = c.args.text.now in
    let at = c.loop-at.at in
    let left = left_byte text at (get_or text at 0) c.loop-at-test.true refl in
    let found = finds_byte (drop at text) _ (drop (at + 1) text) (get_or text at 0) _ c.split_at.ensures.back left c.in_ok-found.ensures in
    let there = subst (λ o. FindsAt (front_of (get_or text at 0)) (get_or text at 0) (drop (at + 1) text) o) c.in-Some.is found in
    splits_part text (drop (at + 1) text) (get_or text at 0) c.in-Some.found.part c.in-Some.found.length c.loop-at.made c.push.new.self at left c.if-text-at-eq32.false there.0 there.2 c.loop-at-test.true c.in_ok-push.ensures.ok c.loop-at.invariant

pub returns : goal.returns
returns c = splits_end c.args.text.now c.loop-at.made c.loop-at.at c.loop-at-test.false c.loop-at.invariant
