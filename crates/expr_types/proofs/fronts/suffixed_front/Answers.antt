use Rattle.std.proofs.Common.{reverse, take}
use Rattle.expr_types.specs.Nodes.{Suffixed}
use Rattle.expr_types.proofs.Telling.{fault_told, later_told, own_told, later_at, seen_at}
use Rattle.expr_types.proofs.fronts.suffixed_front.Goals as goal

pub returns-in-Err : goal.returns-in-Err
returns-in-Err c = λ p q. fault_told (Suffixed c.args.e.now (reverse (take c.args.count c.args.suffixes.now))) (seen_at c.in-Err.is p)

pub returns-in-Err-later : goal.returns-in-Err-later
returns-in-Err-later c = λ p q. let n = Suffixed c.args.e.now (reverse (take c.args.count c.args.suffixes.now)) in
    later_told n (seen_at c.in-Ok.is p) (later_at n c.in-Ok.is c.in-Err-later.is q)

pub returns : goal.returns
returns c = λ p q. let n = Suffixed c.args.e.now (reverse (take c.args.count c.args.suffixes.now)) in
    own_told n _ (seen_at c.in-Ok.is p) (later_at n c.in-Ok.is c.in-Ok-later.is q) c.in_ok-verdict.ensures
