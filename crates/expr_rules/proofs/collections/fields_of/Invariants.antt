use Rattle.std.proofs.Common.{◌≡◌, ◌++◌, drop, reverse}
use Rattle.expr_rules.specs.Own.{fields_of}
use Rattle.expr_rules.proofs.collections.fields_of.Given as goal

-- the fields are those made so far and those of what is left
abbrev pub invariant-loop-field : goal.invariant-loop-field
invariant-loop-field l = fields_of l.fields l.fn.parts ≡ l.made ++ fields_of (drop l.field-index l.fields) (reverse l.left)
