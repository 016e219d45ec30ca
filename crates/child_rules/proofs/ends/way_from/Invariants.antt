use Rattle.std.proofs.Common.{◌-◌}
use Rattle.child_rules.proofs.BackWays.{Going}
use Rattle.child_rules.proofs.ends.way_from.Given as goal

abbrev pub invariant-loop : goal.invariant-loop
invariant-loop l = Going l.places.comps l.from (l.end - l.counter) l.comps l.to
