use Rattle.type_resolver.proofs.Resolutions.{not_both, one_fault, one_tree}
use Rattle.type_resolver.proofs.Sounding.{parts_of}
use Rattle.type_resolver.proofs.laws.one_resolution.Goals as goal

pub returns-clause-one_tree : goal.returns-clause-one_tree
returns-clause-one_tree c =
    let known = parts_of c.one_item.ensures.one c.one_item.ensures.no_fault c.one_condition.ensures.one c.one_condition.ensures.no_fault c.one_model.ensures.one c.one_model.ensures.no_fault in
    one_tree known

pub returns-clause-one_fault : goal.returns-clause-one_fault
returns-clause-one_fault c =
    let known = parts_of c.one_item.ensures.one c.one_item.ensures.no_fault c.one_condition.ensures.one c.one_condition.ensures.no_fault c.one_model.ensures.one c.one_model.ensures.no_fault in
    one_fault known

pub returns-clause-not_both : goal.returns-clause-not_both
returns-clause-not_both c =
    let known = parts_of c.one_item.ensures.one c.one_item.ensures.no_fault c.one_condition.ensures.one c.one_condition.ensures.no_fault c.one_model.ensures.one c.one_model.ensures.no_fault in
    not_both known
