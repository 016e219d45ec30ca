use Rattle.row_models.proofs.KeyRuns.{found_ok, found_err}
use Rattle.row_models.proofs.keys.is_among.Goals as goal

pub returns-in-Ok : goal.returns-in-Ok
returns-in-Ok c = found_ok c.args.sorted.now c.args.key c.in-Ok.field-0 c.requires c.in-Ok.ensures.position

pub returns-in-Err : goal.returns-in-Err
returns-in-Err c = found_err c.args.sorted.now c.args.key c.in-Err.field-0 c.requires c.in-Err.ensures.position
