use Rattle.std.proofs.Common.{◌∙◌}
use Rattle.element_tables.specs.Operators.{operations}
use Rattle.element_tables.proofs.Ordered.{operation-sorted}
use Rattle.element_tables.proofs.built_in_operators.operator_row.Goals as goal

-- the table in code is the definition's rows in order
pub returns : goal.returns
returns c = c.find.ensures ∙ operation-sorted c.args.op c.args.left c.args.right operations
