use Rattle.std.proofs.Common.{◌≡◌, take, map}
use Rattle.declaration_rules.specs.Repeats.{name_of}
use Rattle.declaration_rules.proofs.repeats.index_of.Given as goal

-- what the front of the list comes to is there
abbrev pub invariant-loop-word : goal.invariant-loop-word
invariant-loop-word l = l.names ≡ map name_of (take l.word-index l.words)
