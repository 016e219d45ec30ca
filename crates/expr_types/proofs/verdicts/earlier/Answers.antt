use Rattle.std.proofs.Common.{◌≡◌, Bool, false, IsTrue}
use Rattle.expr_types.proofs.Order.{not_behind_itself, not_behind_turned}
use Rattle.expr_types.proofs.verdicts.earlier.Goals as goal

not_true : (b : Bool) → b ≡ false → IsTrue b → ⊥
not_true b e t = cc

pub returns-then-is_not_behind-clause-before_a : goal.returns-then-is_not_behind-clause-before_a
returns-then-is_not_behind-clause-before_a c = not_behind_itself c.args.a

pub returns-else-is_not_behind-clause-before_a : goal.returns-else-is_not_behind-clause-before_a
returns-else-is_not_behind-clause-before_a c = not_behind_turned c.args.a c.args.b (λ p. not_true _ c.if-is_not_behind.false (c.is_not_behind.ensures.1 p))

pub returns-else-is_not_behind-clause-before_b : goal.returns-else-is_not_behind-clause-before_b
returns-else-is_not_behind-clause-before_b c = not_behind_itself c.args.b
