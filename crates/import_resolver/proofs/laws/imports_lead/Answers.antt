use Rattle.import_resolver.proofs.Leading.{imports_lead}
use Rattle.import_resolver.proofs.laws.imports_lead.Goals as goal

pub returns : goal.returns
returns c = λ w main s load. imports_lead load
