use Rattle.std.proofs.Common.{refl, append-nil, arith, ◌<◌, string_bytes}
use Rattle.value_types.proofs.Fractions.{no_parts, digit_then, point_then}
use Rattle.value_types.proofs.decimals.push_fraction.Goals as goal

pub returns-then-parts-eq0 : goal.returns-then-parts-eq0
returns-then-parts-eq0 c = rw (c.if-parts-eq0.true, no_parts, append-nil) refl

pub returns : goal.returns
returns c =
    let ascii : 46 < 128 = omega arith in
    digit_then (string_bytes c.args.text.now) _ _ _ _ _ 46 46 c.in_ok-push.ensures.bytes (c.push.ensures.ascii ascii) refl c.in_ok-push_digits.ensures (point_then c.args.places c.args.parts c.if-parts-eq0.false c.requires.small)
