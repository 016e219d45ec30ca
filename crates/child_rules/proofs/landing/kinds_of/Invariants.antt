use Rattle.std.proofs.Common.{◌≡◌, map, take}
use Rattle.child_rules.specs.Jumps.{kind_of}
use Rattle.child_rules.proofs.landing.kinds_of.Given as goal

-- those so far
abbrev pub invariant-loop-ty : goal.invariant-loop-ty
invariant-loop-ty l = l.kinds ≡ map kind_of (take l.ty-index l.types)
