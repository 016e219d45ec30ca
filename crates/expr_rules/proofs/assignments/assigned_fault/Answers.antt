use Rattle.expr_rules.proofs.Nothing.{none_denoted}
use Rattle.expr_rules.proofs.assignments.assigned_fault.Goals as goal

pub returns-in_default : goal.returns-in_default
returns-in_default c = none_denoted c.args.scope.now c.args.part.now c.in_default.not-Denoted
