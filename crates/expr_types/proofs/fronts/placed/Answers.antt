use Rattle.std.proofs.Common.{ap, ◌∙◌}
use Rattle.std.specs.Option.{option_copied}
use Rattle.expr_rules.specs.Own.{at_place}
use Rattle.expr_types.specs.Nodes.{At}
use Rattle.expr_types.proofs.Telling.{fault_told, own_told, none_seen, one_seen, told_at}
use Rattle.expr_types.proofs.fronts.placed.Goals as goal

pub returns-in-Err : goal.returns-in-Err
returns-in-Err c = λ s t. fault_told (At (option_copied c.args.place) c.args.e.now) (one_seen (told_at c.in-Err.is t))

pub returns : goal.returns
returns c = λ s t. own_told (At (option_copied c.args.place) c.args.e.now) _ (one_seen (told_at c.in-Ok.is t)) none_seen
    (c.in_ok-verdict.ensures ∙ ap (λ z. at_place (option_copied c.args.place) z c.in-Ok.part) c.span.ensures)
