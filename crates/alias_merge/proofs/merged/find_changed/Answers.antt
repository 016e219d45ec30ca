use Rattle.std.proofs.Common.{◌∙◌}
use Rattle.alias_merge.proofs.Merging.{change_told, changed_are, changes_are, ordered}
use Rattle.alias_merge.proofs.merged.find_changed.Goals as goal

pub returns-clause-fault : goal.returns-clause-fault
returns-clause-fault c =
    change_told c.args.expanded.now c.args.groups.now.labels c.as_slice-labels.result.now c.args.groups.now.homes c.as_slice-2.result.now c.as_slice-3.result.now c.as_slice-4.result.now c.in_ok-fault.fault c.requires.groups
    c.as_slice-labels.ensures c.as_slice-2.ensures (c.as_slice-3.ensures ∙ c.in_ok-lists.ensures)
    (changes_are c.args.expanded.now c.args.numbers.now c.as_slice.result.now c.in_ok-lists.lists c.in_ok-changes.changes c.as_slice-4.result.now c.requires.numbers c.as_slice.ensures c.in_ok-lists.ensures c.in_ok-changes.ensures.all c.as_slice-4.ensures)
    (ordered c.in_ok-changes.changes c.as_slice-4.result.now c.as_slice-4.ensures c.in_ok-changes.ensures.in_order) c.in_ok-fault.ensures

pub returns-clause-lists : goal.returns-clause-lists
returns-clause-lists c =
    changed_are c.args.expanded.now c.args.groups.now.labels c.as_slice-labels.result.now c.as_slice-5.result.now c.in_ok-by_list.by_list c.as_slice-labels.ensures
    (changes_are c.args.expanded.now c.args.numbers.now c.as_slice.result.now c.in_ok-lists.lists c.in_ok-changes.changes c.as_slice-5.result.now c.requires.numbers c.as_slice.ensures c.in_ok-lists.ensures c.in_ok-changes.ensures.all c.as_slice-5.ensures)
    c.in_ok-by_list.ensures
