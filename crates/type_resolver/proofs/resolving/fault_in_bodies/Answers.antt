use Rattle.std.proofs.Common.{◌∙◌}
use Rattle.type_resolver.proofs.Resolutions.{bodies_first}
use Rattle.type_resolver.proofs.resolving.fault_in_bodies.Goals as goal

pub returns : goal.returns
returns c = bodies_first c.args.scopes.now c.in_ok-names.names c.earlier.ensures c.in_ok-of_names.ensures c.in_ok-of_children.ensures (c.in_ok-names.ensures ∙ c.in_ok-outline.ensures)
