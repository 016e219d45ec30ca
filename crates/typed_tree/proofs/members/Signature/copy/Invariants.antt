use Rattle.std.proofs.Common.{◌≡◌, take}
use Rattle.typed_tree.proofs.members.Signature.copy.Given as goal

-- the parameters so far
abbrev pub invariant-loop-ty : goal.invariant-loop-ty
invariant-loop-ty l = l.parameters ≡ take l.ty-index l.self.parameters
