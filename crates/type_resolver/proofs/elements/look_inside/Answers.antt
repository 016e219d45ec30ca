use Rattle.type_resolver.proofs.Sounding.{parts_of}
use Rattle.type_resolver.proofs.Walking.{went_told}
use Rattle.type_resolver.proofs.elements.look_inside.Goals as goal

pub returns : goal.returns
returns c =
    went_told (parts_of c.one_item.ensures.one c.one_item.ensures.no_fault c.one_condition.ensures.one c.one_condition.ensures.no_fault c.one_model.ensures.one c.one_model.ensures.no_fault) c.args.names.now c.args.here c.args.items.now c.args.inside c.as_slice.result.now c.in_ok-told.told c.element_of.result c.as_slice.ensures c.in_ok-told.ensures c.element_of.ensures
