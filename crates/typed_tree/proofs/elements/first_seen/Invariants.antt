use Rattle.std.proofs.Common.{◌≡◌, drop}
use Rattle.typed_tree.specs.Finding.{first_seen}
use Rattle.typed_tree.proofs.elements.first_seen.Given as goal

-- what the rest comes to is what all come to
abbrev pub invariant-loop-number : goal.invariant-loop-number
invariant-loop-number l = first_seen l.elements l.from l.name l.numbers ≡ first_seen l.elements l.from l.name (drop l.number-index l.numbers)
