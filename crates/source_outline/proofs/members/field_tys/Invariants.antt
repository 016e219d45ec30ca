use Rattle.std.proofs.Common.{◌≡◌, map, take}
use Rattle.source_outline.specs.Members.{field_ty}
use Rattle.source_outline.proofs.members.field_tys.Given as goal

-- the types so far
abbrev pub invariant-loop-field : goal.invariant-loop-field
invariant-loop-field l = l.made ≡ map (field_ty l.scopes l.file) (take l.field-index l.fields)
