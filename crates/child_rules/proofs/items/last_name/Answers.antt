use Rattle.std.proofs.Common.{sym}
use Rattle.child_rules.proofs.LastNames.{last_name_is}
use Rattle.child_rules.proofs.items.last_name.Goals as goal

pub returns-in-Some : goal.returns-in-Some
returns-in-Some c = last_name_is c.args.first.now c.args.rest.now c.in-Some.name.now (sym c.in-Some.ensures.value)
