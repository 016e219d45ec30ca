use Rattle.item_types.specs.Items.{change_judging}
use Rattle.item_types.proofs.Lists.{each_empty, each_end, each_turn}
use Rattle.item_types.proofs.Sounds.{change_sound}
use Rattle.item_types.proofs.states.judge_changes.Goals as goal

pub loop-change-init : goal.loop-change-init
loop-change-init c = each_empty (change_judging c.args.scope.now) c.new.ensures

pub loop-change-preserved : goal.loop-change-preserved
loop-change-preserved c = each_turn (change_judging c.args.scope.now) (change_sound c.args.scope.now) c.args.changes.now c.loop-change.change-index c.change-item.result c.change-item.is c.loop-change-test.true c.in_ok-seen.ensures c.loop-change.invariant c.in_ok-verdict.ensures

pub returns : goal.returns
returns c = each_end (change_judging c.args.scope.now) c.args.changes.now c.loop-change.change-index c.loop-change-test.false c.loop-change.invariant
