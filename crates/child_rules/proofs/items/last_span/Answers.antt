use Rattle.std.proofs.Common.{sym}
use Rattle.child_rules.proofs.LastNames.{last_span_is}
use Rattle.child_rules.proofs.items.last_span.Goals as goal

pub returns-in-Some : goal.returns-in-Some
returns-in-Some c = last_span_is c.args.before c.args.names.now c.in-Some.name.now (sym c.in-Some.ensures.value)
