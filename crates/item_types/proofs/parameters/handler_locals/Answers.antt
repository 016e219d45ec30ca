use Rattle.std.proofs.Common.{ap, ◌++◌, ◌∙◌, ◌∷◌, []}
use Rattle.item_types.specs.Members.{locals}
use Rattle.item_types.proofs.Lists.{name_turn, names_over, types_over}
use Rattle.item_types.proofs.parameters.handler_locals.Goals as goal

pub loop-place-init : goal.loop-place-init
loop-place-init c = ap (λ z. z ++ locals c.args.names.now c.args.types.now) c.new-made.ensures

pub returns-in_default : goal.returns-in_default
returns-in_default c = types_over _ c.args.types.now c.loop-place.place c.loop-place.made _ c.in_default.ensures c.loop-place.invariant

pub loop-place-preserved : goal.loop-place-preserved
loop-place-preserved c = name_turn c.args.names.now c.args.types.now c.loop-place.place c.index-names-place.result c.in-Some.ty.now c.loop-place.made _ _ c.loop-place-test.true c.index-names-place.is c.in-Some.ensures
    (c.in_ok-push.ensures.ok ∙ ap (λ z. c.loop-place.made ++ z ∷ []) c.in_ok-parameter.ensures) c.loop-place.invariant

pub returns : goal.returns
returns c = names_over c.args.names.now c.args.types.now c.loop-place.place c.loop-place.made _ c.loop-place-test.false c.loop-place.invariant
