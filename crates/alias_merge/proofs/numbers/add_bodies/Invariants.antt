use Rattle.std.proofs.Common.{◌≡◌, ◌++◌, drop, map}
use Rattle.alias_merge.specs.Numbers.{body_size}
use Rattle.alias_merge.proofs.numbers.add_bodies.Given as goal

-- with the sizes of what is left they become all
abbrev pub invariant-loop-body : goal.invariant-loop-body
invariant-loop-body l = l.sizes ++ map (body_size l.comps) (drop l.body-index l.bodies) ≡ l.initial.sizes ++ map (body_size l.comps) l.bodies
