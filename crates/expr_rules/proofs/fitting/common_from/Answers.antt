use Rattle.std.proofs.Common.{rules}
use Rattle.expr_rules.proofs.Lists.{none_in_common}
use Rattle.expr_rules.proofs.fitting.common_from.Goals as goal

pub returns-in_default : goal.returns-in_default
returns-in_default c =
    none_in_common c.loop-e.common c.args.es.now c.loop-e.e-index c.e-item.result _ _ (search rules) (search rules) c.in_ok-ty.ensures c.in_default.is c.loop-e.invariant
