use Rattle.std.proofs.Common.{take}
use Rattle.declaration_rules.specs.Circles.{UsagesWithin}
use Rattle.declaration_rules.proofs.circles.node_count.Given as goal

-- the numbers of the uses so far are below the count
abbrev pub invariant-loop-one : goal.invariant-loop-one
invariant-loop-one l = UsagesWithin l.count (take l.one-index l.usages)
