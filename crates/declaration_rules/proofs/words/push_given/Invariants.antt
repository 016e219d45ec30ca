use Rattle.std.proofs.Common.{◌≡◌, take, ◌++◌, map}
use Rattle.declaration_rules.specs.Words.{given}
use Rattle.declaration_rules.proofs.words.push_given.Given as goal

-- what the front of the list comes to is there
abbrev pub invariant-loop-alias : goal.invariant-loop-alias
invariant-loop-alias l = l.out ≡ l.initial.out ++ map given (take l.alias-index l.names)
