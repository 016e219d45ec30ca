use Rattle.std.proofs.Common.{ℕ, Bool, List, Option, length, ap, ◌∙◌, subst}
use Rattle.alias_merge.specs.ChoosingSteps.{AreAhead, chosen_of, free_of, marks_of, shallow_of}
use Rattle.alias_merge.proofs.Aheads.{members_sized}
use Rattle.alias_merge.proofs.Choices.{choices_made}
use Rattle.alias_merge.proofs.choosing.choose.Goals as goal

pub ahead-requires : goal.ahead-requires
ahead-requires c = ap (λ (xs : List Bool). length xs) (c.as_slice-3.ensures ∙ c.in_ok-marks.ensures) ∙ (members_sized c.nodes.result c.as_slice-2.result.now ∙ c.nodes.ensures)

pub returns : goal.returns
returns c =
    choices_made c.args.links.now.nodes c.args.links.now.edges c.args.labels.now c.args.homes.now c.args.candidates.now c.in_ok-shallow.shallow c.in_ok-free.free c.in_ok-marks.marks c.in_ok-ahead.ahead c.in_ok-depths.depths
    c.in_ok-chosen.chosen c.in_ok-ahead.ensures.within c.in_ok-depths.ensures
    (c.in_ok-shallow.ensures ∙ ap (λ (ds : List (Option ℕ)). shallow_of c.args.labels.now c.args.homes.now ds c.args.candidates.now) c.as_slice.ensures)
    (c.in_ok-marks.ensures ∙ (ap (λ n. marks_of n c.as_slice-2.result.now) c.nodes.ensures ∙ ap (marks_of c.args.links.now.nodes) c.as_slice-2.ensures))
    (subst (λ (xs : List Bool). AreAhead c.args.links.now.edges xs c.in_ok-ahead.ahead) c.as_slice-3.ensures c.in_ok-ahead.ensures.ahead)
    (c.in_ok-free.ensures ∙ (ap (λ (xs : List Bool). free_of xs c.as_slice-5.result.now) c.as_slice-4.ensures ∙ ap (free_of c.in_ok-ahead.ahead) c.as_slice-5.ensures))
    (c.in_ok-chosen.ensures ∙ ap (chosen_of c.args.labels.now c.args.homes.now) c.as_slice-6.ensures)
