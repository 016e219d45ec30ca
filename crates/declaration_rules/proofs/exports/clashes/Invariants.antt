use Rattle.std.proofs.Common.{◌≡◌, [], map, take}
use Rattle.std.specs.List.{flat_map}
use Rattle.fault_order.specs.Order.{first_of}
use Rattle.declaration_rules.specs.Exports.{clash_of}
use Rattle.declaration_rules.specs.Repeats.{name_of}
use Rattle.declaration_rules.specs.Turns.{in_turn}
use Rattle.declaration_rules.specs.Words.{same_words}
use Rattle.declaration_rules.proofs.exports.clashes.Given as goal

-- the names of the groups so far are there, and the first of them that an earlier group has is told
abbrev pub invariant-loop-group : goal.invariant-loop-group
invariant-loop-group l = record {
  names : l.names ≡ map name_of (flat_map same_words (take l.group-index l.groups));
  first : l.first ≡ first_of (in_turn clash_of [] (take l.group-index l.groups));
}
