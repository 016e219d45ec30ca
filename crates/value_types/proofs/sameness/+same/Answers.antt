use Rattle.std.proofs.Common.{rules, ap}
use Rattle.value_types.proofs.Sames.{next_same, apart, pair_same, texts_same, texts_differ}
use Rattle.value_types.proofs.sameness.+same.Goals as goal

pub same_values-loop-place-preserved : goal.same_values-loop-place-preserved
same_values-loop-place-preserved t c =
    let e = c.same.ensures.0 c.if-not-same.false in
    (c.loop-place.invariant.0, next_same c.args.a.now c.args.b.now c.loop-place.place c.value-item.result c.in-Some.other.now (search rules) (search rules) (search rules) e c.loop-place.invariant.1)

pub same_fields-loop-place-preserved : goal.same_fields-loop-place-preserved
same_fields-loop-place-preserved t c =
    let names = texts_same c.ne.result _ _ c.ne.ensures c.if-ne.false in
    let values = c.same.ensures.0 c.if-not-same.false in
    (c.loop-place.invariant.0, next_same c.args.a.now c.args.b.now c.loop-place.place c.field-item.result c.in-Some.other.now (search rules) (search rules) (search rules) (pair_same c.field-item.result c.in-Some.other.now names values) c.loop-place.invariant.1)

pub same_fields-returns-then-ne : goal.same_fields-returns-then-ne
same_fields-returns-then-ne t c =
    let differ = texts_differ c.ne.result _ _ c.ne.ensures c.if-ne.true in
    (λ h. cc, λ e. absurd (apart c.args.a.now c.args.b.now c.loop-place.place c.field-item.result c.in-Some.other.now (search rules) (search rules) (search rules) (λ same. differ (ap (λ p. p.0) same)) e))

pub same_fields-returns-then-not-same : goal.same_fields-returns-then-not-same
same_fields-returns-then-not-same t c = (
  λ h. cc,
  λ e. absurd (apart c.args.a.now c.args.b.now c.loop-place.place c.field-item.result c.in-Some.other.now (search rules) (search rules) (search rules)
      (λ same. (let held = c.same.ensures.1 (ap (λ p. p.1) same) in let not_held = c.if-not-same.true in cc)) e),
)
