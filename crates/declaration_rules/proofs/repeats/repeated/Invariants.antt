use Rattle.std.proofs.Common.{◌≡◌, [], map, take}
use Rattle.fault_order.specs.Order.{first_of}
use Rattle.declaration_rules.specs.Repeats.{name_of, repeat_of}
use Rattle.declaration_rules.specs.Turns.{in_turn}
use Rattle.declaration_rules.proofs.repeats.repeated.Given as goal

-- the names of the words so far are there, and the first of these words that is there before is told
abbrev pub invariant-loop-word : goal.invariant-loop-word
invariant-loop-word l = record {
  names : l.names ≡ map name_of (take l.word-index l.words);
  first : l.first ≡ first_of (in_turn repeat_of [] (take l.word-index l.words));
}
