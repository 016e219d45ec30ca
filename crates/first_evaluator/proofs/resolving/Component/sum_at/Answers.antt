use Rattle.std.proofs.Common.{[], length, get_or, ap, ◌∙◌, arith}
use Rattle.std.proofs.lemmas.List.{get_or_read_under}
use Rattle.first_evaluator.specs.declared.trees.FirstFile.{FirstFile}
use Rattle.first_evaluator.proofs.ResolvedSums.{length-sums_behind, bound_from_sums, sums_of-resolved}
use Rattle.first_evaluator.proofs.resolving.Component.sum_at.Goals as goal

pub index-requires : goal.index-requires
index-requires c =
    let l = length-sums_behind [] c.self.inside.file.props c.self.inside.sums.items c.self.invariant.resolved in
    let n = ap (λ (f : FirstFile). length f.props) c.self.view_is in
    omega (arith, c.self.inside.sums.ok.0)

pub returns-clause-sum : goal.returns-clause-sum
returns-clause-sum c =
    let l = length-sums_behind [] c.self.inside.file.props c.self.inside.sums.items c.self.invariant.resolved in
    let n = ap (λ (f : FirstFile). length f.props) c.self.view_is in
    get_or_read_under c.self.inside.sums.items c.args.place c.self.inside.sums.len c.index.result.now [] c.index.ensures (omega (arith, c.self.inside.sums.ok.0)) (c.self.inside.sums.ok.0)
    ∙ ap (λ sums. get_or sums c.args.place []) (sums_of-resolved c.args.self.now c.self.inside.file c.self.inside.sums.items c.self.view_is c.self.invariant.resolved)

pub returns-clause-bound : goal.returns-clause-bound
returns-clause-bound c = rw (← c.self.view_is) (bound_from_sums c.self.inside.file.props _ c.self.invariant.resolved)
