use Rattle.std.proofs.Common.{◌≡◌, map, take}
use Rattle.typed_tree.specs.Bases.{go}
use Rattle.typed_tree.proofs.bases.after.Given as goal

-- those so far
abbrev pub invariant-loop-ty : goal.invariant-loop-ty
invariant-loop-ty l = l.made ≡ map (go l.jumps) (take l.ty-index l.types)
