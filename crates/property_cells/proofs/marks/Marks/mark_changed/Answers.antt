use Rattle.std.proofs.Common.{inr, refl, sym, subst}
use Rattle.value_types.specs.declared.facets.Facet.{Facet}
use Rattle.property_cells.specs.Changed.{Changed}
use Rattle.property_cells.proofs.HitsLoop.{not_true}
use Rattle.property_cells.proofs.marks.Marks.mark_changed.Goals as goal

pub returns-else-changes : goal.returns-else-changes
returns-else-changes c =
    inr (λ d. not_true c.changes.result c.if-changes.false (c.changes.ensures.1 (subst (λ (f : Facet). Changed c.args.change.now f) (sym c.facet.ensures) d)), refl)
