use Rattle.std.proofs.Common.{◌∙◌, ap}
use Rattle.std.specs.Option.{option_copied}
use Rattle.fault_order.specs.Order.{first_of}
use Rattle.source_scopes.specs.Names.{root_component}
use Rattle.declaration_rules.specs.Declarations.{faults_in_files, rootless}
use Rattle.declaration_rules.proofs.Telling.{joined}
use Rattle.declaration_rules.proofs.declarations.listed_fault.Goals as goal

pub returns : goal.returns
returns c =
    joined (rootless (root_component c.args.scopes.now (option_copied c.args.named))) (faults_in_files c.args.scopes.now) c.rootless.result c.in_ok-files.files c.earlier.result
    (c.rootless.ensures ∙ ap (λ root. first_of (rootless root)) c.in_ok-root.ensures) c.in_ok-files.ensures c.earlier.ensures
