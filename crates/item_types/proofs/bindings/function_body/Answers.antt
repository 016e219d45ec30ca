use Rattle.std.proofs.Common.{◌≡◌, ap, ◌∙◌}
use Rattle.typed_tree.specs.declared.trees.TypedItem.TheVariants as typed_items
use Rattle.item_types.specs.Members.{locals, field_names, with_parameters}
use Rattle.item_types.specs.Values.{block_judging}
use Rattle.item_types.proofs.Inside.{block_inside}
use Rattle.item_types.proofs.Leaves.{block_sound}
use Rattle.item_types.proofs.Telling.{made_in_ok, made_in_err}
use Rattle.item_types.proofs.bindings.function_body.Goals as goal

pub returns-in-Ok : goal.returns-in-Ok
returns-in-Ok c =
    let s = with_parameters c.args.scope.now (locals (field_names c.args.function.now.parameters) c.args.found.1.parameters) in
    let e = c.with_parameters-inside.ensures ∙ ap (λ z. with_parameters c.args.scope.now z) (c.as_slice-given.ensures ∙ c.in_ok-locals.ensures
    ∙ ap (λ z. locals (field_names z) c.as_slice-types.result.now) c.as_slice-fields.ensures ∙ ap (λ z. locals (field_names c.args.function.now.parameters) z) c.as_slice-types.ensures) in
    made_in_ok (block_judging s c.args.found.1.result c.args.function.now.body) (λ b. typed_items.Function (record { number = c.args.found.0; body = b }))
    (block_sound s c.args.found.1.result c.args.function.now.body) c.in-Ok.is (block_inside c.args.found.1.result c.args.function.now.body e c.in_ok-verdict.ensures)

pub returns : goal.returns
returns c =
    let s = with_parameters c.args.scope.now (locals (field_names c.args.function.now.parameters) c.args.found.1.parameters) in
    let e = c.with_parameters-inside.ensures ∙ ap (λ z. with_parameters c.args.scope.now z) (c.as_slice-given.ensures ∙ c.in_ok-locals.ensures
    ∙ ap (λ z. locals (field_names z) c.as_slice-types.result.now) c.as_slice-fields.ensures ∙ ap (λ z. locals (field_names c.args.function.now.parameters) z) c.as_slice-types.ensures) in
    made_in_err (block_judging s c.args.found.1.result c.args.function.now.body) (λ b. typed_items.Function (record { number = c.args.found.0; body = b }))
    (block_sound s c.args.found.1.result c.args.function.now.body) c.in-Err.is (block_inside c.args.found.1.result c.args.function.now.body e c.in_ok-verdict.ensures)
