use Rattle.std.proofs.Common.{◌≡◌, take}
use Rattle.declaration_rules.proofs.repeats.words_of.Given as goal

-- the front of the row is there
abbrev pub invariant-loop-ident : goal.invariant-loop-ident
invariant-loop-ident l = l.words ≡ take l.ident-index l.idents
