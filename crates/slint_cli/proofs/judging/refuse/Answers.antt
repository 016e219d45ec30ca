use Rattle.import_resolver.specs.Loaded.{rows_of}
use Rattle.slint_cli.proofs.Judged.{refused_other}
use Rattle.slint_cli.proofs.judging.refuse.Goals as goal

pub returns-in-Ok-clause-other : goal.returns-in-Ok-clause-other
returns-in-Ok-clause-other c = refused_other c.args.main.now (rows_of c.args.loaded.now) c.args.fault c.in-Ok.refusal c.in-Ok.ensures c.requires.other
