use Rattle.std.proofs.Common.{ap, ◌∙◌}
use Rattle.slint_parser.specs.declared.stops.Seen.TheVariants as seens
use Rattle.slint_parser.proofs.Chains as chains
use Rattle.slint_parser.proofs.operators.sum_op.Goals as goal

pub returns-in-Symbol-Plus : goal.returns-in-Symbol-Plus
returns-in-Symbol-Plus c = let e = rw c.in-Symbol-Plus.is at c.in-Symbol-Plus.field-0-is in chains.looks_plus_sign c.args.seen (c.in-Symbol-Plus.is ∙ ap seens.Symbol e)

pub returns-in-Symbol-Minus : goal.returns-in-Symbol-Minus
returns-in-Symbol-Minus c = let e = rw c.in-Symbol-Minus.is at c.in-Symbol-Minus.field-0-is in chains.looks_minus_sign c.args.seen (c.in-Symbol-Minus.is ∙ ap seens.Symbol e)
