-- What kind of thing a node came to.
use Rattle.std.specs.Prelude.{◌≡◌}
use Rattle.expr_rules.specs.declared.judged.Judged.{Judged}
use Rattle.expr_rules.specs.declared.judged.Judged.TheVariants as judged
use Rattle.expr_rules.specs.Denotations.{denoted, given, value_of}
use Rattle.expr_rules.specs.OwnBlocks.{block_given}

-- what an expression stands for
abbrev pub IsStanding : Judged → Type 0
IsStanding x = x ≡ judged.Denoted (denoted x)

-- a value that goes back to no member
abbrev pub IsValue : Judged → Type 0
IsValue x = x ≡ value_of (given x)

-- a block
abbrev pub IsBlock : Judged → Type 0
IsBlock x = x ≡ judged.Block (block_given x)
