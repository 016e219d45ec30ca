use Rattle.std.specs.Option.{option_copied}
use Rattle.import_resolver.specs.Loaded.{rows_of}
use Rattle.slint_cli.proofs.Judged.{checks_purity, checks_end}
use Rattle.slint_cli.proofs.judging.check_source.Goals as goal

pub returns-in-Ok : goal.returns-in-Ok
returns-in-Ok c = checks_purity (rows_of c.args.loaded.now) (option_copied c.args.named) c.in-Ok.tree c.check_purity.result c.in-Ok.ensures c.check_purity.ensures

pub returns-in-Err : goal.returns-in-Err
returns-in-Err c = checks_end (rows_of c.args.loaded.now) (option_copied c.args.named) c.in-Err.end c.in-Err.ensures
