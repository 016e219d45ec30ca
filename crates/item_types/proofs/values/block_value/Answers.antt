use Rattle.typed_tree.specs.declared.statements.TypedValue.TheVariants as typed_values
use Rattle.item_types.specs.Values.{block_judging}
use Rattle.item_types.proofs.Leaves.{block_sound}
use Rattle.item_types.proofs.Telling.{made_in_ok, made_in_err}
use Rattle.item_types.proofs.values.block_value.Goals as goal

pub returns-in-Ok : goal.returns-in-Ok
returns-in-Ok c = made_in_ok (block_judging c.args.scope.now c.args.ty.now c.args.block.now) (λ x. typed_values.Block x) (block_sound c.args.scope.now c.args.ty.now c.args.block.now) c.in-Ok.is c.in_ok-verdict.ensures

pub returns-in-Err : goal.returns-in-Err
returns-in-Err c = made_in_err (block_judging c.args.scope.now c.args.ty.now c.args.block.now) (λ x. typed_values.Block x) (block_sound c.args.scope.now c.args.ty.now c.args.block.now) c.in-Err.is c.in_ok-verdict.ensures
