use Rattle.std.proofs.Common.{map}
use Rattle.loop_check.specs.declared.acts.Home.TheVariants as homes
use Rattle.loop_check.specs.Numbers.{AreRowsOf, declared_in_component}
use Rattle.loop_check.proofs.numbers.number_components.Given as goal

-- what there is so far
abbrev pub invariant-loop-component : goal.invariant-loop-component
invariant-loop-component l = AreRowsOf (λ c. homes.Component c) (map declared_in_component l.comps) l.component l.initial.things l.things l.rows
