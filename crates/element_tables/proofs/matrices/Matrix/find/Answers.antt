use Rattle.std.proofs.Common.{rules}
use Rattle.std.proofs.lemmas.Fn.{always_returns_same}
use Rattle.element_tables.specs.Operators.{key_order, operation_of}
use Rattle.element_tables.proofs.Ordered.{row_found, row_missing}
use Rattle.element_tables.proofs.matrices.Matrix.find.Goals as goal

pub returns-in-Ok : goal.returns-in-Ok
returns-in-Ok c =
    let facts = c.in-Ok.ensures in
    let here = facts.position (λ row. key_order (operation_of row).0 (c.args.op, c.args.left, c.args.right)) (always_returns_same _ _ _ (λ a r q called. (search rules, search rules))) in
    row_found c.args.op c.args.left c.args.right c.args.self.now.rows.now c.args.self.now.in_order c.in-Ok.at _ facts.bound here

pub returns-in-Err : goal.returns-in-Err
returns-in-Err c =
    let facts = c.in-Err.ensures in
    let parts = facts.position (λ row. key_order (operation_of row).0 (c.args.op, c.args.left, c.args.right)) (always_returns_same _ _ _ (λ a r q called. (search rules, search rules))) in
    row_missing c.args.op c.args.left c.args.right c.args.self.now.rows.now c.args.self.now.in_order c.in-Err.field-0 facts.bound parts
