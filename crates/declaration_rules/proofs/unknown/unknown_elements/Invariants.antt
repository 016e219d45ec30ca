use Rattle.std.proofs.Common.{◌≡◌, take}
use Rattle.std.specs.List.{flat_map}
use Rattle.fault_order.specs.Order.{first_of}
use Rattle.declaration_rules.specs.Declarations.{unknown_element}
use Rattle.declaration_rules.proofs.unknown.unknown_elements.Given as goal

-- the first fault of the front of the list is told
abbrev pub invariant-loop-word : goal.invariant-loop-word
invariant-loop-word l = l.first ≡ first_of (flat_map (unknown_element l.scopes l.file) (take l.word-index l.words))
