use Rattle.std.proofs.Common.{◌++◌, List, refl, ap}
use Rattle.alias_merge.specs.declared.numbers.Block.{Block}
use Rattle.alias_merge.specs.Numbers.{blocks_from}
use Rattle.alias_merge.proofs.Numbering.{blocks_turn}
use Rattle.alias_merge.proofs.Passes.{behind_end}
use Rattle.alias_merge.proofs.numbers.blocks.Goals as goal

pub loop-size-init : goal.loop-size-init
loop-size-init c = ap (λ (bs : List Block). bs ++ blocks_from 0 c.args.sizes.now) c.new-blocks.ensures

pub loop-size-preserved : goal.loop-size-preserved
loop-size-preserved c =
    blocks_turn c.loop-size.blocks c.push.new.self (blocks_from 0 c.args.sizes.now) c.args.sizes.now c.loop-size.size-index 0 c.loop-size.first c.in_ok-past.past c.loop-size-test.true c.loop-size.invariant c.in_ok-past.ensures
    c.in_ok-push.ensures.ok

pub returns : goal.returns
returns c = behind_end (blocks_from c.loop-size.first) c.loop-size.blocks (blocks_from 0 c.args.sizes.now) c.args.sizes.now c.loop-size.size-index refl c.loop-size-test.false c.loop-size.invariant
