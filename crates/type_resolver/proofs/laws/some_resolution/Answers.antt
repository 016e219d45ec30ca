use Rattle.source_scopes.specs.Declarations.{components_of, globals_of}
use Rattle.source_outline.specs.Following.{outline}
use Rattle.type_resolver.proofs.Passing.{rootless_breaks}
use Rattle.type_resolver.proofs.Resolutions.{some_resolution}
use Rattle.type_resolver.proofs.Sounding.{parts_of}
use Rattle.type_resolver.proofs.TellingAll.{PartsTold, bodies_told}
use Rattle.type_resolver.proofs.laws.some_resolution.Goals as goal

pub returns : goal.returns
returns c = λ rows named.
    let known = parts_of c.one_item.ensures.one c.one_item.ensures.no_fault c.one_condition.ensures.one c.one_condition.ensures.no_fault c.one_model.ensures.one c.one_model.ensures.no_fault in
    let given : PartsTold = record { items = c.some_verdict.ensures.item; conditions = c.some_verdict.ensures.condition; models = c.some_verdict.ensures.model } in
    let declared = c.some_first_declaration_fault.ensures rows named in
    let links = c.some_first_endless_link.ensures rows in
    some_resolution rows named (declared.fault, declared.first) (rootless_breaks rows named) (links.fault, links.first)
    (bodies_told known given (outline rows) c.parents_stand_before.ensures (components_of rows) (globals_of rows))
