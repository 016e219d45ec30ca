use Rattle.std.proofs.Common.{[], ap, Ok, sym}
use Rattle.expr_types.proofs.Telling.{none_seen, seen_at}
use Rattle.expr_types.proofs.verdicts.only.Goals as goal

pub returns : goal.returns
returns c = λ s n t. c.in_ok-seen.ensures s n t [] (seen_at (ap Ok (sym c.new.ensures)) none_seen)
