use Rattle.std.proofs.Common.{◌≡◌, [], take}
use Rattle.fault_order.specs.Order.{first_of}
use Rattle.declaration_rules.specs.Circles.{marked_fault}
use Rattle.declaration_rules.specs.Turns.{in_turn}
use Rattle.declaration_rules.proofs.circles.first_marked.Given as goal

-- the first of the uses so far that are marked is told
abbrev pub invariant-loop-number : goal.invariant-loop-number
invariant-loop-number l = l.first ≡ first_of (in_turn (marked_fault l.marks) [] (take l.number l.usages))
