use Rattle.std.proofs.Common.{map}
use Rattle.loop_check.specs.declared.acts.Home.TheVariants as homes
use Rattle.loop_check.specs.Numbers.{AreRowsOf, declared_in_global}
use Rattle.loop_check.proofs.numbers.number_globals.Given as goal

-- what there is so far
abbrev pub invariant-loop-number : goal.invariant-loop-number
invariant-loop-number l = AreRowsOf (λ g. homes.Global g) (map declared_in_global l.globals) l.number l.initial.things l.things l.rows
