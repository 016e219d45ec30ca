use Rattle.std.proofs.Common.{map, ap, ◌∙◌}
use Rattle.source_scopes.specs.Declarations.{components_of, globals_of}
use Rattle.source_scopes.specs.Shown.{shown_component, shown_global}
use Rattle.type_resolver.proofs.Counting.{bodies_by}
use Rattle.type_resolver.proofs.Sounding.{parts_of}
use Rattle.type_resolver.proofs.resolving.third_pass.Goals as goal

pub returns : goal.returns
returns c =
    bodies_by (parts_of c.one_item.ensures.one c.one_item.ensures.no_fault c.one_condition.ensures.one c.one_condition.ensures.no_fault c.one_model.ensures.one c.one_model.ensures.no_fault) c.args.names.now (map shown_component c.as_slice.result.now) (components_of c.args.scopes.now) (map shown_global c.as_slice-2.result.now) (globals_of c.args.scopes.now)
    (ap (map shown_component) c.as_slice.ensures ∙ c.in_ok-components.ensures) (ap (map shown_global) c.as_slice-2.ensures ∙ c.in_ok-globals.ensures) c.in_ok-elements.ensures c.in_ok-bodies.ensures c.both_told.ensures
