use Rattle.std.proofs.Common.{◌++◌, [], ◌∷◌, ℕ, map, refl, ap, ◌∙◌}
use Rattle.alias_merge.specs.Numbers.{body_size}
use Rattle.alias_merge.proofs.Passes.{behind_end, mapped_turn}
use Rattle.alias_merge.proofs.numbers.add_bodies.Goals as goal

pub loop-body-preserved : goal.loop-body-preserved
loop-body-preserved c =
    mapped_turn (body_size c.args.comps.now) c.loop-body.sizes c.push.new.self (c.args.sizes.now ++ map (body_size c.args.comps.now) c.args.bodies.now) c.args.bodies.now c.loop-body.body-index _ c.loop-body-test.true
    c.loop-body.invariant (c.in_ok-push.ensures.ok ∙ ap (λ (n : ℕ). c.loop-body.sizes ++ n ∷ []) c.body_size.ensures)

pub returns : goal.returns
returns c =
    behind_end (map (body_size c.args.comps.now)) c.loop-body.sizes (c.args.sizes.now ++ map (body_size c.args.comps.now) c.args.bodies.now) c.args.bodies.now c.loop-body.body-index refl c.loop-body-test.false c.loop-body.invariant
