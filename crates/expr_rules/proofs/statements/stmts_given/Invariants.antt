use Rattle.std.proofs.Common.{◌≡◌, ◌++◌, length}
use Rattle.std.specs.Prelude.{reverse}
use Rattle.expr_rules.specs.OwnBlocks.{stmts_given}
use Rattle.expr_rules.proofs.statements.stmts_given.Given as goal

-- the statements so far, and behind them those that are left, are all statements
abbrev pub invariant-loop-part : goal.invariant-loop-part
invariant-loop-part l = l.stmts ++ stmts_given (reverse l.rest) ≡ stmts_given l.fn.parts

abbrev pub decreases-loop-part : goal.decreases-loop-part
decreases-loop-part l = length l.rest
