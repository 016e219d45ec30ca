use Rattle.std.proofs.Common.{rules}
use Rattle.std.proofs.lemmas.Fn.{always_returns_same}
use Rattle.element_tables.specs.Rows.{byte_order}
use Rattle.element_tables.proofs.Named.{name_found, name_missing}
use Rattle.element_tables.proofs.names.NameTable.find.Goals as goal

pub returns-in-Ok : goal.returns-in-Ok
returns-in-Ok g c =
    let facts = c.in-Ok.ensures in
    let here = facts.position (λ row. byte_order row.0.now c.args.name.now) (always_returns_same _ _ _ (λ a r q called. (search rules, search rules))) in
    name_found c.args.name.now c.args.self.now.rows.now c.args.self.now.in_order c.in-Ok.at c.index-self-at.result facts.bound here

pub returns-in-Err : goal.returns-in-Err
returns-in-Err g c =
    let facts = c.in-Err.ensures in
    let parts = facts.position (λ row. byte_order row.0.now c.args.name.now) (always_returns_same _ _ _ (λ a r q called. (search rules, search rules))) in
    name_missing c.args.name.now c.args.self.now.rows.now c.args.self.now.in_order c.in-Err.field-0 facts.bound parts
