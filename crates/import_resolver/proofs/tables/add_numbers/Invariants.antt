use Rattle.std.proofs.Common.{◌≡◌, drop}
use Rattle.import_resolver.specs.Loads.{with_numbers}
use Rattle.import_resolver.proofs.tables.add_numbers.Given as goal

abbrev pub invariant-loop-number : goal.invariant-loop-number
invariant-loop-number l = with_numbers l.numbers.items (drop l.number-index l.more) ≡ with_numbers l.initial.numbers.items l.more
