use Rattle.std.proofs.Common.{ap, ◌∙◌}
use Rattle.slint_parser.specs.declared.stops.Seen.TheVariants as seens
use Rattle.slint_parser.proofs.Chains as chains
use Rattle.slint_parser.proofs.operators.product_op.Goals as goal

pub returns-in-Symbol-Star : goal.returns-in-Symbol-Star
returns-in-Symbol-Star c = let e = rw c.in-Symbol-Star.is at c.in-Symbol-Star.field-0-is in chains.looks_star_sign c.args.seen (c.in-Symbol-Star.is ∙ ap seens.Symbol e)

pub returns-in-Symbol-Slash : goal.returns-in-Symbol-Slash
returns-in-Symbol-Slash c = let e = rw c.in-Symbol-Slash.is at c.in-Symbol-Slash.field-0-is in chains.looks_slash_sign c.args.seen (c.in-Symbol-Slash.is ∙ ap seens.Symbol e)
