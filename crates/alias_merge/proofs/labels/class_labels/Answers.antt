use Rattle.std.proofs.Common.{ℕ, List, subst, sym, ◌∙◌}
use Rattle.alias_merge.specs.Labels.{AreBelow}
use Rattle.alias_merge.proofs.Labelling.{labelled}
use Rattle.alias_merge.proofs.labels.class_labels.Goals as goal

pub firsts-requires : goal.firsts-requires
firsts-requires c = subst (λ (gs : List ℕ). AreBelow c.in_ok-limit.limit gs) (c.as_slice.ensures ∙ sym c.as_slice-2.ensures) c.in_ok-limit.ensures

pub returns : goal.returns
returns c =
    labelled c.args.links.now c.args.members c.in_ok-limit.limit c.in_ok-graph.graph c.in_ok-groups.groups c.as_slice-2.result.now c.as_slice-4.result.now c.in_ok-firsts.firsts c.as_slice-3.result.now c.in_ok-labels.labels
    c.requires c.in_ok-graph.ensures c.in_ok-groups.ensures c.as_slice-2.ensures c.in_ok-firsts.ensures c.as_slice-3.ensures c.as_slice-4.ensures c.in_ok-labels.ensures
