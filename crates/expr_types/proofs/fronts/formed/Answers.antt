use Rattle.std.specs.Option.{option_copied}
use Rattle.expr_types.specs.Nodes.{Denotes}
use Rattle.expr_types.proofs.Telling.{fault_told, own_told, none_seen, seen_at}
use Rattle.expr_types.proofs.fronts.formed.Goals as goal

pub returns-in-Err : goal.returns-in-Err
returns-in-Err c = λ p. fault_told (Denotes (option_copied c.args.place) c.args.e.now) (seen_at c.in-Err.is p)

pub returns : goal.returns
returns c = λ p. own_told (Denotes (option_copied c.args.place) c.args.e.now) _ (seen_at c.in-Ok.is p) none_seen c.in_ok-verdict.ensures
