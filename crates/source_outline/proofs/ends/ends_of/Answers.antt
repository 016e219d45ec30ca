use Rattle.std.proofs.Common.{◌≤◌, ◌<◌, ◌-◌, ◌∙◌, ap, length, arith}
use Rattle.source_outline.specs.Doubling.{doubled}
use Rattle.source_outline.proofs.Chains.{doubled_is, enough_more, ends_there, ends_last, all_rounds}
use Rattle.source_outline.proofs.ends.ends_of.Goals as goal

pub loop-preserved : goal.loop-preserved
loop-preserved c =
    let l : c.loop.steps < length c.args.nexts.now = omega arith in (
      doubled_is c.loop.steps c.args.nexts.now c.loop.ends c.in_ok-ends-2.ends c.loop.invariant.0 (c.in_ok-ends-2.ensures ∙ ap doubled c.as_slice.ensures),
      enough_more (length c.args.nexts.now) (length c.args.nexts.now) c.loop.steps c.loop.counter _ c.loop-test.true l c.loop.invariant.1,
    )

pub returns-then-steps-nexts : goal.returns-then-steps-nexts
returns-then-steps-nexts c =
    let l : length c.args.nexts.now ≤ c.loop.steps = omega arith in
    ends_there (length c.args.nexts.now - c.loop.counter) (length c.args.nexts.now) c.loop.steps _ c.args.nexts.now c.loop.ends l c.loop.invariant.1 c.loop.invariant.0

pub returns : goal.returns
returns c = ends_last (length c.args.nexts.now) (length c.args.nexts.now) c.loop.steps c.loop.counter _ c.args.nexts.now c.loop.ends c.loop-test.false c.loop.invariant.1 c.loop.invariant.0
