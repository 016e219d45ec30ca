use Rattle.std.proofs.Common.{Bool, List, length, ap, ◌∙◌, sym, subst}
use Rattle.finite_graphs.specs.Graphs.{Drawn}
use Rattle.finite_graphs.specs.Reached.{AreReached}
use Rattle.alias_merge.proofs.Aheads.{are_ahead, starts_sized}
use Rattle.alias_merge.proofs.choosing.ahead.Goals as goal

pub reached_from-requires : goal.reached_from-requires
reached_from-requires c =
    ap (λ (xs : List Bool). length xs) (c.as_slice.ensures ∙ c.in_ok-starts.ensures) ∙ (starts_sized c.args.links.now.nodes c.args.marks.now c.args.links.now.edges ∙ sym (ap (λ (g : Drawn). g.nodes) c.in_ok-turned.ensures.turned))

pub returns-clause-ahead : goal.returns-clause-ahead
returns-clause-ahead c =
    are_ahead c.args.links.now.nodes c.args.links.now.edges c.args.marks.now c.as_slice.result.now c.in_ok-ahead.ahead c.in_ok-turned.ensures.within c.requires (c.as_slice.ensures ∙ c.in_ok-starts.ensures)
    (subst (λ (g : Drawn). AreReached g c.as_slice.result.now c.in_ok-ahead.ahead) c.in_ok-turned.ensures.turned c.in_ok-ahead.ensures)
