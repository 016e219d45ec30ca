use Rattle.std.proofs.Common.{rules}
use Rattle.std.proofs.lemmas.Fn.{always_returns_same}
use Rattle.element_tables.specs.Rows.{byte_order}
use Rattle.type_rules.proofs.FieldIndexes.{field_found, field_missing}
use Rattle.type_rules.proofs.field_index.halved.Goals as goal

pub returns-in-Ok : goal.returns-in-Ok
returns-in-Ok c =
    let facts = c.in-Ok.ensures in
    let here = facts.position (λ field. byte_order field.0 c.args.name.now) (always_returns_same _ _ _ (λ a r q called. (search rules, search rules))) in
    field_found c.args.name.now c.args.fields.now c.requires c.in-Ok.place c.index-fields-place.result facts.bound here

pub returns-in-Err : goal.returns-in-Err
returns-in-Err c =
    let facts = c.in-Err.ensures in
    let parts = facts.position (λ field. byte_order field.0 c.args.name.now) (always_returns_same _ _ _ (λ a r q called. (search rules, search rules))) in
    field_missing c.args.name.now c.args.fields.now c.requires c.in-Err.field-0 facts.bound parts
