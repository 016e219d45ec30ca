use Rattle.std.proofs.Common.{ap}
use Rattle.alias_merge.specs.declared.numbers.MemberNumbers.{MemberNumbers}
use Rattle.alias_merge.proofs.Merging.{ends_within, told_of}
use Rattle.alias_merge.proofs.merged.link_fault.Goals as goal

pub first_on_circle-requires : goal.first_on_circle-requires
first_on_circle-requires c = ends_within c.args.expanded.now c.args.numbers.now.count c.args.all.now (ap (λ (n : MemberNumbers). n.count) c.requires.numbers) c.requires.all

pub returns : goal.returns
returns c = told_of c.first_on_circle.result c.args.all.now c.args.expanded.now c.requires.all c.first_on_circle.ensures
