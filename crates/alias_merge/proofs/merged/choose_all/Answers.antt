use Rattle.std.proofs.Common.{ap}
use Rattle.alias_merge.specs.declared.numbers.MemberNumbers.{MemberNumbers}
use Rattle.alias_merge.proofs.Merging.{ends_within}
use Rattle.alias_merge.proofs.merged.choose_all.Goals as goal

pub drawn-requires : goal.drawn-requires
drawn-requires c = ends_within c.args.expanded.now c.args.numbers.now.count c.args.all.now (ap (λ (n : MemberNumbers). n.count) c.requires.numbers) c.requires.all
