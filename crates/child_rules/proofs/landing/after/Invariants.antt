use Rattle.std.proofs.Common.{◌≡◌, map, take}
use Rattle.child_rules.specs.Jumps.{jumped}
use Rattle.child_rules.proofs.landing.after.Given as goal

-- those so far
abbrev pub invariant-loop-ty : goal.invariant-loop-ty
invariant-loop-ty l = l.made ≡ map (jumped l.jumps) (take l.ty-index l.types)
