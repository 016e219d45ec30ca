use Rattle.item_types.specs.Items.{state_judging}
use Rattle.item_types.proofs.Lists.{each_empty, each_end, each_turn}
use Rattle.item_types.proofs.Sounds.{state_sound}
use Rattle.item_types.proofs.states.judge_all.Goals as goal

pub loop-state-init : goal.loop-state-init
loop-state-init c = each_empty (state_judging c.args.scope.now) c.new.ensures

pub loop-state-preserved : goal.loop-state-preserved
loop-state-preserved c = each_turn (state_judging c.args.scope.now) (state_sound c.args.scope.now) c.args.states.now c.loop-state.state-index c.state-item.result c.state-item.is c.loop-state-test.true c.in_ok-seen.ensures c.loop-state.invariant c.in_ok-verdict.ensures

pub returns : goal.returns
returns c = each_end (state_judging c.args.scope.now) c.args.states.now c.loop-state.state-index c.loop-state-test.false c.loop-state.invariant
