use Rattle.std.proofs.Common.{◌≡◌, Some, drop}
use Rattle.expr_rules.specs.Own.{common_from}
use Rattle.expr_rules.proofs.fitting.common_from.Given as goal

-- all have in common what those so far and what is left have
abbrev pub invariant-loop-e : goal.invariant-loop-e
invariant-loop-e l = common_from (Some l.first) l.es ≡ common_from (Some l.common) (drop l.e-index l.es)
