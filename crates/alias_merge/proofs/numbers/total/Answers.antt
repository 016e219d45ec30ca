use Rattle.std.proofs.Common.{◌+◌, refl}
use Rattle.std.specs.Prelude.{sum}
use Rattle.alias_merge.proofs.Passes.{fold_end, fold_turn}
use Rattle.alias_merge.proofs.numbers.total.Goals as goal

pub loop-size-init : goal.loop-size-init
loop-size-init c = refl

pub loop-size-preserved : goal.loop-size-preserved
loop-size-preserved c =
    fold_turn (λ a x. a + x) c.loop-size.count c.in_ok-count.count (sum c.args.sizes.now) c.args.sizes.now c.loop-size.size-index 0 c.loop-size-test.true c.loop-size.invariant c.in_ok-count.ensures

pub returns : goal.returns
returns c = fold_end (λ a x. a + x) c.loop-size.count (sum c.args.sizes.now) c.args.sizes.now c.loop-size.size-index c.loop-size-test.false c.loop-size.invariant
