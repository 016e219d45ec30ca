use Rattle.declaration_rules.proofs.Filing.{file-arm, none-arm}
use Rattle.declaration_rules.proofs.declarations.fault_in.Goals as goal

pub returns-in-Some : goal.returns-in-Some
returns-in-Some c =
    file-arm c.file_fault.result c.args.scopes.now c.args.loaded.now c.args.file (c.in-Some.field-0-0.now, c.in-Some.source.now) c.as_slice-items.result.now c.as_slice.result.now c.in-Some.ensures.entry c.as_slice-items.ensures c.as_slice.ensures.value c.file_fault.ensures

pub returns-in-None : goal.returns-in-None
returns-in-None c = none-arm c.args.scopes.now c.args.loaded.now c.args.file c.in-None.ensures.entry
