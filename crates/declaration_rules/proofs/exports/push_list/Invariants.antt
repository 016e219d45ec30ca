use Rattle.std.proofs.Common.{◌≡◌, take, ◌++◌, map}
use Rattle.declaration_rules.specs.Exports.{alone_given}
use Rattle.declaration_rules.proofs.exports.push_list.Given as goal

-- what the front of the list comes to is there
abbrev pub invariant-loop-alias : goal.invariant-loop-alias
invariant-loop-alias l = l.out ≡ l.initial.out ++ map alone_given (take l.alias-index l.names)
