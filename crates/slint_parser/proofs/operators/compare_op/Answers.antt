use Rattle.std.proofs.Common.{ap, ◌∙◌}
use Rattle.slint_parser.specs.declared.stops.Seen.TheVariants as seens
use Rattle.slint_parser.proofs.Chains as chains
use Rattle.slint_parser.proofs.operators.compare_op.Goals as goal

pub returns-in-Symbol-EqualEqual : goal.returns-in-Symbol-EqualEqual
returns-in-Symbol-EqualEqual c = let e = rw c.in-Symbol-EqualEqual.is at c.in-Symbol-EqualEqual.field-0-is in chains.looks_equal c.args.seen (c.in-Symbol-EqualEqual.is ∙ ap seens.Symbol e)

pub returns-in-Symbol-NotEqual : goal.returns-in-Symbol-NotEqual
returns-in-Symbol-NotEqual c = let e = rw c.in-Symbol-NotEqual.is at c.in-Symbol-NotEqual.field-0-is in chains.looks_not_equal c.args.seen (c.in-Symbol-NotEqual.is ∙ ap seens.Symbol e)

pub returns-in-Symbol-Less : goal.returns-in-Symbol-Less
returns-in-Symbol-Less c = let e = rw c.in-Symbol-Less.is at c.in-Symbol-Less.field-0-is in chains.looks_less c.args.seen (c.in-Symbol-Less.is ∙ ap seens.Symbol e)

pub returns-in-Symbol-LessEqual : goal.returns-in-Symbol-LessEqual
returns-in-Symbol-LessEqual c = let e = rw c.in-Symbol-LessEqual.is at c.in-Symbol-LessEqual.field-0-is in chains.looks_less_equal c.args.seen (c.in-Symbol-LessEqual.is ∙ ap seens.Symbol e)

pub returns-in-Symbol-Greater : goal.returns-in-Symbol-Greater
returns-in-Symbol-Greater c = let e = rw c.in-Symbol-Greater.is at c.in-Symbol-Greater.field-0-is in chains.looks_greater c.args.seen (c.in-Symbol-Greater.is ∙ ap seens.Symbol e)

pub returns-in-Symbol-GreaterEqual : goal.returns-in-Symbol-GreaterEqual
returns-in-Symbol-GreaterEqual c = let e = rw c.in-Symbol-GreaterEqual.is at c.in-Symbol-GreaterEqual.field-0-is in chains.looks_greater_equal c.args.seen (c.in-Symbol-GreaterEqual.is ∙ ap seens.Symbol e)
