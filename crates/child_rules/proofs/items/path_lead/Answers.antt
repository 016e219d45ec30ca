use Rattle.std.proofs.Common.{◌∙◌, ap}
use Rattle.typed_tree.specs.declared.scopes.Site.TheVariants as site
use Rattle.name_lookup.specs.Leads.{body_scope, lead_of}
use Rattle.child_rules.specs.Rows.{rows_around}
use Rattle.child_rules.proofs.items.path_lead.Goals as goal

pub returns : goal.returns
returns c = c.in_ok-lead.ensures
    ∙ ap (λ scope. lead_of scope c.args.path.now) c.new-scope.ensures
    ∙ ap (λ outline. lead_of (body_scope outline (site.Element c.args.body.component c.args.body.element) c.as_slice.result.now) c.args.path.now) c.names.ensures
    ∙ ap (λ rows. lead_of (body_scope c.args.places.now (site.Element c.args.body.component c.args.body.element) rows) c.args.path.now)
    (c.as_slice.ensures ∙ c.in_ok-rows.ensures ∙ ap (λ elements. rows_around elements c.args.body.element) c.elements.ensures)
