use Rattle.slint_parser.proofs.TopFault.{of_tokens, fault_of}
use Rattle.slint_parser.proofs.files.parse.Goals as goal

pub returns-in-Ok : goal.returns-in-Ok
returns-in-Ok c = of_tokens c.new-cursor.result c.args.tokens.now c.in-Ok.items c.new-cursor.ensures c.in-Ok.ensures

pub returns-in-Err-Memory : goal.returns-in-Err-Memory
returns-in-Err-Memory c = tt

pub returns-in-Err-Fault : goal.returns-in-Err-Fault
returns-in-Err-Fault c =
    fault_of c.args.file c.args.len c.new-cursor.result c.args.tokens.now c.in-Err-Fault.stop c.fault_at.result c.new-cursor.ensures
    (c.in-Err-Fault.ensures c.in-Err-Fault.stop c.in-Err-Fault.field-0-is) c.fault_at.ensures
