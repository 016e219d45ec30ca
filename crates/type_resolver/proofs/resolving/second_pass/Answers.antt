use Rattle.std.proofs.Common.{sym, subst}
use Rattle.type_resolver.specs.Resolves.{SecondPass}
use Rattle.type_resolver.proofs.Resolutions.{second_passed}
use Rattle.type_resolver.proofs.resolving.second_pass.Goals as goal

pub returns : goal.returns
returns c = subst (SecondPass c.args.scopes.now) (sym c.passed.ensures) (second_passed c.args.scopes.now c.in_ok-in_bodies.in_bodies c.in_ok-sketch.sketch c.in_ok-in_bodies.ensures c.in_ok-sketch.ensures)
