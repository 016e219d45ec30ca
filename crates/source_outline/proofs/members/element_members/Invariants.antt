use Rattle.std.proofs.Common.{◌≡◌, ◌++◌, drop}
use Rattle.source_outline.specs.Members.{element_members}
use Rattle.source_outline.proofs.members.element_members.Given as goal

-- the members so far and those of the elements that are left
abbrev pub invariant-loop-element : goal.invariant-loop-element
invariant-loop-element l = l.made ++ element_members l.scopes l.file l.element (drop l.element l.written) ≡ element_members l.scopes l.file 0 l.written
