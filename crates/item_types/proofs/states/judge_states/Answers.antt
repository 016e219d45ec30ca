use Rattle.typed_tree.specs.declared.trees.TypedItem.TheVariants as typed_items
use Rattle.item_types.specs.Judging.{each}
use Rattle.item_types.specs.Items.{state_judging}
use Rattle.item_types.proofs.Lists.{each_of}
use Rattle.item_types.proofs.Sounds.{all_states_sound}
use Rattle.item_types.proofs.Telling.{made_in_ok, made_in_err}
use Rattle.item_types.proofs.states.judge_states.Goals as goal

pub returns-in-Ok : goal.returns-in-Ok
returns-in-Ok c = made_in_ok (each (state_judging c.args.scope.now) c.args.list.now.states) (λ xs. typed_items.States (record { states = xs; word = c.args.list.now.word })) (all_states_sound c.args.scope.now c.args.list.now.states) c.in-Ok.is (each_of (state_judging c.args.scope.now) c.as_slice-listed.ensures c.in_ok-verdict.ensures)

pub returns-in-Err : goal.returns-in-Err
returns-in-Err c = made_in_err (each (state_judging c.args.scope.now) c.args.list.now.states) (λ xs. typed_items.States (record { states = xs; word = c.args.list.now.word })) (all_states_sound c.args.scope.now c.args.list.now.states) c.in-Err.is (each_of (state_judging c.args.scope.now) c.as_slice-listed.ensures c.in_ok-verdict.ensures)
