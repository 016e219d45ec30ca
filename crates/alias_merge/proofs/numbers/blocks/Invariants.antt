use Rattle.std.proofs.Common.{◌≡◌, ◌++◌, drop}
use Rattle.alias_merge.specs.Numbers.{blocks_from}
use Rattle.alias_merge.proofs.numbers.blocks.Given as goal

abbrev pub invariant-loop-size : goal.invariant-loop-size
invariant-loop-size l = l.blocks ++ blocks_from l.first (drop l.size-index l.sizes) ≡ blocks_from 0 l.sizes
