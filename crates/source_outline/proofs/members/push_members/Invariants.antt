use Rattle.std.proofs.Common.{◌≡◌, ◌++◌, drop}
use Rattle.source_outline.specs.Members.{body_members}
use Rattle.source_outline.proofs.members.push_members.Given as goal

-- the members so far and those of the items that are left
abbrev pub invariant-loop-item : goal.invariant-loop-item
invariant-loop-item l = l.out ++ body_members l.scopes l.file l.element (drop l.item-index l.items) ≡ l.initial.out ++ body_members l.scopes l.file l.element l.items
