-- The component of a type.
use Rattle.std.specs.Prelude.{ℕ, Option, Some, None}
use Rattle.typed_tree.specs.declared.outlines.ElementType.{ElementType}
use Rattle.typed_tree.specs.declared.outlines.ElementType.TheVariants as element_type

abbrev pub component_of : ElementType → Option ℕ
component_of (element_type.BuiltIn kind) = None
component_of (element_type.Component c) = Some c
