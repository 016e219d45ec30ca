use Rattle.std.proofs.Common.{◌≡◌, ◌<◌, ◌≤◌, ◌+◌, ℤ, pos, length, All, take, take_all, subst, arith}
use Rattle.std.proofs.lemmas.List.Elements.{All-more}
use Rattle.layout_solve.specs.Items.{IsWithinLimits}
use Rattle.runtime_tests.proofs.boxes.are_within.Goals as goal

pub loop-size-preserved : goal.loop-size-preserved
loop-size-preserved c = All-more (IsWithinLimits) c.args.sizes.now c.loop-size.size-index _ c.loop-size-test.true c.loop-size.invariant (c.if-not-is_within.ensures)

pub returns : goal.returns
returns c = subst (All (IsWithinLimits)) (take_all c.loop-size.size-index c.args.sizes.now c.loop-size-test.false) c.loop-size.invariant
