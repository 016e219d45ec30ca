use Rattle.std.proofs.Common.{sym, ◌∙◌, ap}
use Rattle.typed_tree.specs.Elements.{elements_of, id_number, id_seen}
use Rattle.typed_tree.proofs.Listed.{id_of_places}
use Rattle.typed_tree.proofs.names.Names.id.Goals as goal

pub returns-in-Element : goal.returns-in-Element
returns-in-Element c =
    id_of_places c.self.inside.outline.comps c.as_slice-in-Element.result.now c.in-Element.component c.in-Element.from c.args.name.now c.elements_of-elements.result.now c.places_in-places.result.now
    (c.as_slice-in-Element.ensures ∙ c.self.invariant.names.ids) (c.elements_of-elements.ensures ∙ ap (λ cs. elements_of cs c.in-Element.component) c.as_slice.ensures) c.places_in-places.ensures c.first_seen.ensures
    ∙ ap (λ o. id_number (elements_of o.comps c.in-Element.component) c.in-Element.from 0 c.args.name.now (elements_of o.comps c.in-Element.component)) c.self.view_is
    ∙ ap (λ body. id_seen c.args.self.now.comps body c.args.name.now) (sym c.in-Element.is)
