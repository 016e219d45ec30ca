use Rattle.declaration_rules.specs.Declarations.{inner_faults, name_faults}
use Rattle.declaration_rules.proofs.Telling.{joined}
use Rattle.declaration_rules.proofs.files.file_fault.Goals as goal

pub returns : goal.returns
returns c =
    joined (name_faults c.args.scopes.now c.args.items.now c.args.imports.now) (inner_faults c.args.scopes.now c.args.file c.args.items.now) c.in_ok-name.name c.in_ok-inner.inner c.earlier.result
    c.in_ok-name.ensures c.in_ok-inner.ensures c.earlier.ensures
