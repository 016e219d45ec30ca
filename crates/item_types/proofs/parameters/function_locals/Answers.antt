use Rattle.std.proofs.Common.{ap, ◌++◌, ◌∙◌, ◌∷◌, []}
use Rattle.item_types.specs.Members.{field_names, locals}
use Rattle.item_types.proofs.Lists.{field_turn, fields_over, types_over}
use Rattle.item_types.proofs.parameters.function_locals.Goals as goal

pub loop-place-init : goal.loop-place-init
loop-place-init c = ap (λ z. z ++ locals (field_names c.args.fields.now) c.args.types.now) c.new-made.ensures

pub returns-in_default : goal.returns-in_default
returns-in_default c = types_over _ c.args.types.now c.loop-place.place c.loop-place.made _ c.in_default.ensures c.loop-place.invariant

pub loop-place-preserved : goal.loop-place-preserved
loop-place-preserved c = field_turn c.args.fields.now c.args.types.now c.loop-place.place c.index-fields-place.result c.in-Some.ty.now c.loop-place.made _ _ c.loop-place-test.true c.index-fields-place.is c.in-Some.ensures
    (c.in_ok-push.ensures.ok ∙ ap (λ z. c.loop-place.made ++ z ∷ []) c.in_ok-parameter.ensures) c.loop-place.invariant

pub returns : goal.returns
returns c = fields_over c.args.fields.now c.args.types.now c.loop-place.place c.loop-place.made _ c.loop-place-test.false c.loop-place.invariant
