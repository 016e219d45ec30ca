use Rattle.declaration_rules.proofs.Deciding.{some-first}
use Rattle.declaration_rules.proofs.laws.some_first_declaration_fault.Goals as goal

pub returns : goal.returns
returns c = some-first c.circles_are_decided.ensures.walks
