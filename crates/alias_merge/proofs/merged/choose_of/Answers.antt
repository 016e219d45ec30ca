use Rattle.alias_merge.proofs.Merging.{chosen_are}
use Rattle.alias_merge.proofs.merged.choose_of.Goals as goal

pub returns : goal.returns
returns c =
    chosen_are c.args.expanded.now c.args.graph.now.edges c.args.groups.now.labels c.as_slice-labels.result.now c.args.groups.now.homes c.as_slice-homes.result.now c.args.candidates.now c.in_ok-chosen.chosen c.requires.graph
    c.as_slice-labels.ensures c.as_slice-homes.ensures c.requires.no_loop c.requires.groups c.in_ok-chosen.ensures
