use Rattle.std.proofs.Common.{◌≡◌, map, take}
use Rattle.source_outline.specs.Members.{parameter_ty}
use Rattle.source_outline.proofs.members.parameter_list.Given as goal

-- the types so far
abbrev pub invariant-loop-parameter : goal.invariant-loop-parameter
invariant-loop-parameter l = l.made ≡ map (parameter_ty l.scopes l.file) (take l.parameter-index l.parameters)
