use Rattle.std.proofs.Common.{sym}
use Rattle.item_types.specs.Items.{change_judging, state_judging}
use Rattle.item_types.proofs.Inside.{state_of_both}
use Rattle.item_types.proofs.Lists.{each_of}
use Rattle.item_types.proofs.Telling.{told_at}
use Rattle.item_types.proofs.states.judge_state.Goals as goal

pub returns : goal.returns
returns c = told_at (state_judging c.args.scope.now c.args.state.now) (sym c.state_of.ensures) (state_of_both c.args.scope.now c.args.state.now c.in_ok-when.ensures (each_of (change_judging c.args.scope.now) c.as_slice-listed.ensures c.in_ok-changes.ensures))
