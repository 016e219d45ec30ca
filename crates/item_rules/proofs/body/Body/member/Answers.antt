use Rattle.std.proofs.Common.{[], ap, ◌∙◌}
use Rattle.name_lookup.specs.Leads.{own_member}
use Rattle.item_rules.specs.Rows.{rows_around}
use Rattle.item_rules.proofs.OtherRows.{same_own}
use Rattle.fault_order.proofs.Told.{as_told}
use Rattle.item_rules.proofs.body.Body.member.Goals as goal

pub returns : goal.returns
returns c = as_told c.own_member.result _ _
    (ap (λ s. own_member s c.args.name.now) c.new-scope.ensures
    ∙ same_own c.self.inside.names.now c.self.inside.here [] (rows_around c.self.inside.elements.now c.self.inside.here) c.args.name.now
    ∙ ap (λ s. own_member s c.args.name.now) c.self.view_is)
    c.own_member.ensures
