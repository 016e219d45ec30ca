use Rattle.slint_cli.proofs.Judged.{built_other}
use Rattle.slint_cli.proofs.judging.not_built.Goals as goal

pub returns-in-Ok-clause-other : goal.returns-in-Ok-clause-other
returns-in-Ok-clause-other c = built_other c.args.main.now c.in-Ok.refusal c.in-Ok.ensures
