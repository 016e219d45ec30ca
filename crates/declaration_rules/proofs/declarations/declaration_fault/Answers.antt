use Rattle.std.specs.Option.{option_copied}
use Rattle.declaration_rules.proofs.Filing.{first-of-all}
use Rattle.declaration_rules.proofs.declarations.declaration_fault.Goals as goal

pub returns : goal.returns
returns c =
    first-of-all c.args.scopes.now (option_copied c.args.named) c.in_ok-listed.listed c.in_ok-component.component c.in_ok-structs.structs c.earlier.result c.earlier-2.result
    c.in_ok-listed.ensures c.in_ok-component.ensures c.in_ok-structs.ensures c.earlier.ensures c.earlier-2.ensures
