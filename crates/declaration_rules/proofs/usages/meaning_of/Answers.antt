use Rattle.declaration_rules.proofs.Using.{meaning-none, meaning-some}
use Rattle.declaration_rules.proofs.usages.meaning_of.Goals as goal

pub returns-in-Some : goal.returns-in-Some
returns-in-Some c = meaning-some c.args.scopes.now c.args.file c.args.word.now c.name.result.now c.in-Some.meaning c.name.ensures c.in-Some.ensures

pub returns-in-None : goal.returns-in-None
returns-in-None c = meaning-none c.args.scopes.now c.args.file c.args.word.now c.name.result.now c.name.ensures c.in-None.ensures
