-- The faults of children and grids in a source, of which the first is told before any expression is looked at.
use Rattle.std.specs.Prelude.{ℕ, List, ◌++◌}
use Rattle.slint_base.specs.declared.faults.Fault.{Fault}
use Rattle.import_resolver.specs.Loaded.{FileRow}
use Rattle.typed_tree.specs.declared.outlines.Outline.{Outline}
use Rattle.source_elements.specs.Elements.{WrittenElement, written_in}
use Rattle.source_scopes.specs.Declarations.{FileComponent, components_of}
use Rattle.child_rules.specs.Children.{bodies_faults, elements_faults}
use Rattle.fault_order.specs.Order.{numbered}
use Rattle.child_rules.specs.Grids.{grid_faults}

abbrev pub written_faults : List FileComponent → Outline → ℕ → List WrittenElement → List Fault
written_faults declared outline c written = elements_faults outline.comps c ++ (bodies_faults outline c written ++ grid_faults declared outline.comps c written)

abbrev pub component_faults : List FileComponent → Outline → ℕ → FileComponent → List Fault
component_faults declared outline c one = written_faults declared outline c (written_in one.component)

abbrev pub declared_faults : List FileComponent → Outline → List Fault
declared_faults declared outline = numbered (component_faults declared outline) 0 declared

-- the components of all files; in a global there is nothing of the kind
abbrev pub child_faults : List FileRow → Outline → List Fault
child_faults rows outline = declared_faults (components_of rows) outline
