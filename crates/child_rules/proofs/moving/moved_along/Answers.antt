use Rattle.std.proofs.Common.{◌∙◌, ap}
use Rattle.child_rules.specs.Grids.{moved_in}
use Rattle.child_rules.proofs.Along.{along_end, along_turn}
use Rattle.child_rules.proofs.moving.moved_along.Goals as goal

pub loop-number-preserved : goal.loop-number-preserved
loop-number-preserved c = along_turn c.args.places.now.comps c.args.component c.args.grid c.args.written.now c.loop-number.number c.index-written-number.result c.loop-number.moving c.moved_in-moving.result c.index-written-number.is c.loop-number-test.true
    (c.moved_in-moving.ensures ∙ ap (λ body. moved_in c.args.places.now.comps c.args.component c.args.grid c.loop-number.number body c.loop-number.moving) c.body.ensures) c.loop-number.invariant

pub returns : goal.returns
returns c = along_end c.args.places.now.comps c.args.component c.args.grid c.args.written.now c.loop-number.number c.loop-number.moving c.loop-number-test.false c.loop-number.invariant
