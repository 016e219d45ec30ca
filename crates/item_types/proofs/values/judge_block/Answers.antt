use Rattle.item_types.proofs.Leaves.{block_comes, block_fault}
use Rattle.item_types.proofs.values.judge_block.Goals as goal

pub returns-in-Ok : goal.returns-in-Ok
returns-in-Ok c = block_comes c.args.scope.now c.args.ty.now c.args.block.now c.as_slice.ensures c.in-Ok.ensures

pub returns-in-Err-Fault : goal.returns-in-Err-Fault
returns-in-Err-Fault c = block_fault c.args.scope.now c.args.ty.now c.args.block.now c.as_slice.ensures c.in-Err-Fault.field-0-is c.in-Err-Fault.ensures
