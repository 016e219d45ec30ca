use Rattle.std.proofs.Common.{ap}
use Rattle.alias_merge.specs.declared.numbers.MemberNumbers.{MemberNumbers}
use Rattle.alias_merge.proofs.Merging.{ends_within, groups_are}
use Rattle.alias_merge.proofs.merged.find_groups.Goals as goal

pub class_labels-requires : goal.class_labels-requires
class_labels-requires c = ends_within c.args.expanded.now c.args.numbers.now.count c.args.all.now (ap (λ (n : MemberNumbers). n.count) c.requires.numbers) c.requires.all

pub returns : goal.returns
returns c =
    groups_are c.args.expanded.now c.args.all.now c.args.numbers.now.count c.in_ok-labels.labels c.as_slice.result.now c.in_ok-rows.rows c.as_slice-2.result.now c.in_ok-homes.homes c.requires.all
    (ap (λ (n : MemberNumbers). n.count) c.requires.numbers) c.in_ok-labels.ensures c.as_slice.ensures c.in_ok-rows.ensures c.as_slice-2.ensures c.in_ok-homes.ensures
