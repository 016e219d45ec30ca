use Rattle.std.proofs.Common.{◌∙◌, ap, map}
use Rattle.fault_order.specs.Order.{first_of}
use Rattle.source_scopes.specs.Declarations.{components_of}
use Rattle.source_scopes.specs.Shown.{shown_component}
use Rattle.child_rules.specs.Source.{declared_faults}
use Rattle.child_rules.proofs.source.child_fault.Goals as goal

pub returns : goal.returns
returns c = c.in_ok-fault.ensures
    ∙ ap (λ declared. first_of (declared_faults (map shown_component declared) c.in_ok-places.places)) c.as_slice.ensures
    ∙ ap (λ declared. first_of (declared_faults declared c.in_ok-places.places)) c.in_ok-declared.ensures
    ∙ ap (λ outline. first_of (declared_faults (components_of c.args.scopes.now) outline)) c.in_ok-places.ensures
