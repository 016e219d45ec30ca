use Rattle.std.proofs.Common.{ap, ◌∙◌}
use Rattle.slint_parser.specs.declared.stops.Seen.TheVariants as seens
use Rattle.slint_parser.proofs.Chains as chains
use Rattle.slint_parser.proofs.operators.prefix_op.Goals as goal

pub returns-in-Symbol-Bang : goal.returns-in-Symbol-Bang
returns-in-Symbol-Bang c = let e = rw c.in-Symbol-Bang.is at c.in-Symbol-Bang.field-0-is in chains.looks_negation c.args.seen (c.in-Symbol-Bang.is ∙ ap seens.Symbol e)

pub returns-in-Symbol-Minus : goal.returns-in-Symbol-Minus
returns-in-Symbol-Minus c = let e = rw c.in-Symbol-Minus.is at c.in-Symbol-Minus.field-0-is in chains.looks_minus c.args.seen (c.in-Symbol-Minus.is ∙ ap seens.Symbol e)

pub returns-in-Symbol-Plus : goal.returns-in-Symbol-Plus
returns-in-Symbol-Plus c = let e = rw c.in-Symbol-Plus.is at c.in-Symbol-Plus.field-0-is in chains.looks_plus c.args.seen (c.in-Symbol-Plus.is ∙ ap seens.Symbol e)
