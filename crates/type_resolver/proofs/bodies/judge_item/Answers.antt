use Rattle.std.proofs.Common.{Err, ap, ◌∙◌}
use Rattle.item_types.specs.Typing.{item_in}
use Rattle.type_resolver.proofs.Judged.{told_fault, told_result}
use Rattle.type_resolver.proofs.bodies.judge_item.Goals as goal

pub returns-in-Ok : goal.returns-in-Ok
returns-in-Ok c = told_result (item_in c.args.names.now c.args.here c.args.rows.now c.args.item.now) c.in-Ok.is c.type_item.ensures

pub returns-in-Err-Fault : goal.returns-in-Err-Fault
returns-in-Err-Fault c = told_fault (item_in c.args.names.now c.args.here c.args.rows.now c.args.item.now) (c.in-Err-Fault.is ∙ ap Err c.in-Err-Fault.field-0-is) c.type_item.ensures
