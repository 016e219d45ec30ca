use Rattle.std.proofs.Common.{◌≡◌, take}
use Rattle.expr_rules.proofs.places.copy_types.Given as goal

-- the types so far
abbrev pub invariant-loop-ty : goal.invariant-loop-ty
invariant-loop-ty l = l.made ≡ take l.ty-index l.tys
