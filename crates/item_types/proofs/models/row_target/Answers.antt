use Rattle.std.proofs.Common.{sym, ◌∙◌}
use Rattle.item_types.proofs.Inside.{a_target, closed_target, no_target}
use Rattle.item_types.proofs.models.row_target.Goals as goal

pub returns-in_default : goal.returns-in_default
returns-in_default c = no_target c.args.scope.now c.args.e.now c.in_ok-found.found c.in_ok-found.ensures c.in_default.is

pub returns-then-may : goal.returns-then-may
returns-then-may c = a_target c.args.scope.now c.args.e.now c.in-Some.target c.in_ok-may.may (sym c.in-Some.is ∙ c.in_ok-found.ensures) c.in_ok-may.ensures c.if-may.true

pub returns : goal.returns
returns c = closed_target c.args.scope.now c.args.e.now c.in-Some.target c.in_ok-may.may (sym c.in-Some.is ∙ c.in_ok-found.ensures) c.in_ok-may.ensures c.if-may.false
