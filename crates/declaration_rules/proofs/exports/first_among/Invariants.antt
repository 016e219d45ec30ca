use Rattle.std.proofs.Common.{◌≡◌, take}
use Rattle.std.specs.List.{flat_map}
use Rattle.fault_order.specs.Order.{first_of}
use Rattle.declaration_rules.specs.Repeats.{repeat_in}
use Rattle.declaration_rules.proofs.exports.first_among.Given as goal

-- the first fault of the front of the list is told
abbrev pub invariant-loop-word : goal.invariant-loop-word
invariant-loop-word l = l.first ≡ first_of (flat_map (repeat_in l.names) (take l.word-index l.words))
