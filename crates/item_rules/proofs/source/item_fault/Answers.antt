use Rattle.std.proofs.Common.{ap, map, ◌∙◌}
use Rattle.fault_order.specs.Order.{first_of, numbered}
use Rattle.source_scopes.specs.Declarations.{components_of, globals_of}
use Rattle.source_scopes.specs.Shown.{shown_component, shown_global}
use Rattle.item_rules.specs.Items.{component_faults, global_faults}
use Rattle.fault_order.proofs.Told.{both_told}
use Rattle.item_rules.proofs.source.item_fault.Goals as goal

pub returns : goal.returns
returns c = both_told (numbered (component_faults c.args.names.now) 0 (components_of c.args.scopes.now)) (numbered (global_faults c.args.names.now) 0 (globals_of c.args.scopes.now)) c.earlier.ensures
    (c.in_ok-in_components.ensures ∙ ap (λ xs. first_of (numbered (component_faults c.args.names.now) 0 xs)) (ap (map shown_component) c.as_slice.ensures ∙ c.in_ok-components.ensures))
    (c.in_ok-in_globals.ensures ∙ ap (λ xs. first_of (numbered (global_faults c.args.names.now) 0 xs)) (ap (map shown_global) c.as_slice-2.ensures ∙ c.in_ok-globals.ensures))
