use Rattle.std.proofs.Common.{◌≡◌, drop}
use Rattle.child_rules.specs.Numbers.{given}
use Rattle.child_rules.proofs.numbers.given.Given as goal

-- the items from here on give what all of them do
abbrev pub invariant-loop-item : goal.invariant-loop-item
invariant-loop-item l = given l.name (drop l.item-index l.body) ≡ given l.name l.body
