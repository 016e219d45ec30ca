use Rattle.std.proofs.Common.{◌≡◌, take, map}
use Rattle.declaration_rules.specs.Exports.{taken_at}
use Rattle.declaration_rules.proofs.exports.taken_over.Given as goal

-- what the front of the list comes to is there
abbrev pub invariant-loop-entry : goal.invariant-loop-entry
invariant-loop-entry l = l.group ≡ map (taken_at l.span) (take l.entry-index l.exports)
