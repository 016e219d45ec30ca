use Rattle.std.proofs.Common.{◌≡◌, ap, ◌∙◌}
use Rattle.typed_tree.specs.declared.trees.TypedItem.TheVariants as typed_items
use Rattle.item_types.specs.Members.{locals, names_or_none, with_parameters}
use Rattle.item_types.specs.Values.{value_judging}
use Rattle.item_types.proofs.Inside.{value_inside}
use Rattle.item_types.proofs.Sounds.{value_sound}
use Rattle.item_types.proofs.Telling.{made_in_ok, made_in_err}
use Rattle.item_types.proofs.handlers.handler_run.Goals as goal

pub returns-in-Ok : goal.returns-in-Ok
returns-in-Ok c =
    let s = with_parameters c.args.scope.now (locals (names_or_none c.args.handler.now.parameters) c.args.found.1.parameters) in
    let e = c.with_parameters-inside.ensures ∙ ap (λ z. with_parameters c.args.scope.now z) (c.as_slice-given.ensures ∙ c.in_ok-locals.ensures
    ∙ ap (λ z. locals z c.as_slice-types.result.now) c.names_or_none-names.ensures ∙ ap (λ z. locals (names_or_none c.args.handler.now.parameters) z) c.as_slice-types.ensures) in
    made_in_ok (value_judging s c.args.found.1.result c.args.handler.now.run) (λ x. typed_items.Handler (record { event = c.args.found.0; run = x; span = c.args.handler.now.span }))
    (value_sound s c.args.found.1.result c.args.handler.now.run) c.in-Ok.is (value_inside c.args.found.1.result c.args.handler.now.run e c.in_ok-verdict.ensures)

pub returns : goal.returns
returns c =
    let s = with_parameters c.args.scope.now (locals (names_or_none c.args.handler.now.parameters) c.args.found.1.parameters) in
    let e = c.with_parameters-inside.ensures ∙ ap (λ z. with_parameters c.args.scope.now z) (c.as_slice-given.ensures ∙ c.in_ok-locals.ensures
    ∙ ap (λ z. locals z c.as_slice-types.result.now) c.names_or_none-names.ensures ∙ ap (λ z. locals (names_or_none c.args.handler.now.parameters) z) c.as_slice-types.ensures) in
    made_in_err (value_judging s c.args.found.1.result c.args.handler.now.run) (λ x. typed_items.Handler (record { event = c.args.found.0; run = x; span = c.args.handler.now.span }))
    (value_sound s c.args.found.1.result c.args.handler.now.run) c.in-Err.is (value_inside c.args.found.1.result c.args.handler.now.run e c.in_ok-verdict.ensures)
