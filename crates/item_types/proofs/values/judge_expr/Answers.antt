use Rattle.item_types.specs.Judging.{something}
use Rattle.item_types.proofs.Leaves.{expression_fault}
use Rattle.item_types.proofs.values.judge_expr.Goals as goal

pub returns-in-Ok : goal.returns-in-Ok
returns-in-Ok c = something c.in-Ok.ensures

pub returns-in-Err-Fault : goal.returns-in-Err-Fault
returns-in-Err-Fault c = expression_fault c.args.scope.now c.args.ty.now c.args.e.now c.in-Err-Fault.field-0-is c.in-Err-Fault.ensures
