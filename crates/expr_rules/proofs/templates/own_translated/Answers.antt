use Rattle.std.proofs.Common.{◌≡◌, IfOk, List, ℕ, rules, subst, sym, ◌∙◌}
use Rattle.expr_rules.specs.Own.{translated}
use Rattle.expr_rules.proofs.Zips.{by_reversed}
use Rattle.expr_rules.proofs.templates.own_translated.Goals as goal

pub returns-in-Some : goal.returns-in-Some
returns-in-Some c =
    let pieces = by_reversed c.in_ok-pieces.pieces c.in_ok-left.left c.pop.new.self c.in-Some.first c.in_ok-left.ensures c.in-Some.ensures in
    subst (λ (all : List (List ℕ)). IfOk c.translation.result (λ judged. judged ≡ translated c.args.span c.args.parts all)) (sym pieces ∙ search rules) c.translation.ensures
