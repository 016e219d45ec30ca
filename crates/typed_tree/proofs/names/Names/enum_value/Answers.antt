use Rattle.std.specs.Prelude.{slice_get, length}
use Rattle.std.proofs.Common.{sym, ◌∙◌, ap}
use Rattle.typed_tree.specs.Files.{value_number, values_in}
use Rattle.typed_tree.proofs.Listed.{few_fit, place_within, value_place}
use Rattle.typed_tree.proofs.names.Names.enum_value.Goals as goal

pub overflow_cast-result : goal.overflow_cast-result
overflow_cast-result c =
    few_fit c.in-Some.number (length (values_in (slice_get c.self.inside.outline.enums c.args.enum_number)))
    (place_within c.args.name.now (values_in (slice_get c.self.inside.outline.enums c.args.enum_number)) c.in-Some.number
    (sym (value_place c.self.inside.outline.enums c.as_slice.result.now c.args.enum_number c.args.name.now (c.as_slice.ensures ∙ c.self.invariant.names.values)) ∙ sym c.first_in.ensures ∙ c.in-Some.is))
    (c.self.invariant.few c.args.enum_number)

pub returns-in-Some : goal.returns-in-Some
returns-in-Some c = sym c.in-Some.is ∙ c.first_in.ensures
    ∙ value_place c.self.inside.outline.enums c.as_slice.result.now c.args.enum_number c.args.name.now (c.as_slice.ensures ∙ c.self.invariant.names.values)
    ∙ ap (λ o. value_number o.enums c.args.enum_number c.args.name.now) c.self.view_is

pub returns-in-None : goal.returns-in-None
returns-in-None c = sym c.in-None.is ∙ c.first_in.ensures
    ∙ value_place c.self.inside.outline.enums c.as_slice.result.now c.args.enum_number c.args.name.now (c.as_slice.ensures ∙ c.self.invariant.names.values)
    ∙ ap (λ o. value_number o.enums c.args.enum_number c.args.name.now) c.self.view_is
