use Rattle.std.proofs.Common.{[], ◌∷◌, sym, ap, ◌∙◌}
use Rattle.name_lookup.specs.Leads.{body_scope, lead_of}
use Rattle.item_rules.specs.Rows.{named_row, rows_around}
use Rattle.item_rules.proofs.OtherRows.{is_named_row, same_lead}
use Rattle.fault_order.proofs.Told.{as_told}
use Rattle.item_rules.proofs.body.Body.lead.Goals as goal

pub returns-in_ok-rows : goal.returns-in_ok-rows
returns-in_ok-rows c = as_told c.lead_by.result _ _
    (ap (λ rows. lead_of (body_scope c.self.inside.names.now c.self.inside.here rows) c.args.path.now) (c.as_slice.ensures ∙ c.in_ok-rows.ensures)
    ∙ same_lead c.self.inside.names.now c.self.inside.here (named_row c.args.path.now.first.name ∷ []) (rows_around c.self.inside.elements.now c.self.inside.here) c.args.path.now
    (is_named_row c.args.path.now.first.name ∙ sym (sym c.is_row_name.ensures ∙ c.if-is_row_name.true))
    ∙ ap (λ s. lead_of s c.args.path.now) c.self.view_is)
    c.lead_by.ensures

pub returns-else-is_row_name : goal.returns-else-is_row_name
returns-else-is_row_name c = as_told c.lead_by-else-is_row_name.result _ _
    (same_lead c.self.inside.names.now c.self.inside.here [] (rows_around c.self.inside.elements.now c.self.inside.here) c.args.path.now
    (sym (sym c.is_row_name.ensures ∙ c.if-is_row_name.false))
    ∙ ap (λ s. lead_of s c.args.path.now) c.self.view_is)
    c.lead_by-else-is_row_name.ensures
