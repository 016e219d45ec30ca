use Rattle.std.proofs.Common.{◌≡◌, ℕ, None}
use Rattle.child_rules.specs.Ends.{known_at}
use Rattle.child_rules.proofs.ends.nothing_known.Given as goal

abbrev pub invariant-loop : goal.invariant-loop
invariant-loop l = (c : ℕ) → known_at l.known c ≡ None
