use Rattle.std.proofs.Common.{None, Some, List, sym, subst, arith}
use Rattle.finite_graphs.specs.declared.search.Search.{Search}
use Rattle.finite_graphs.specs.declared.search.Standing.{Standing}
use Rattle.finite_graphs.specs.declared.search.Standing.TheVariants.{Open, Closed}
use Rattle.finite_graphs.specs.Searching.{Holds}
use Rattle.finite_graphs.specs.Walks.{At}
use Rattle.finite_graphs.proofs.Searching.{merged, skipped, taken, taken_reach, taken_within}
use Rattle.finite_graphs.proofs.search.Search.go_on.Goals as goal

pub prove-unreachable-requires : goal.prove-unreachable-requires
prove-unreachable-requires c =
    let w = taken_within c.pop.new.self c.in-Some.node c.requires.state c.requires.top c.requires.more c.in-Some.ensures in
    let n = c.requires.state.sized in omega (arith, w, n, c.len.ensures)

pub open-requires-clause-state : goal.open-requires-clause-state
open-requires-clause-state c =
    (Some c.in-Some.node, λ b e. (cc), taken c.pop.new.self c.in-Some.node c.requires.state c.requires.top c.requires.more c.in-Some.ensures)

pub open-requires-clause-reached : goal.open-requires-clause-reached
open-requires-clause-reached c = taken_reach c.pop.new.self c.in-Some.node c.requires.state c.requires.top c.requires.more c.in-Some.ensures

pub returns-in-Open-clause-state : goal.returns-in-Open-clause-state
returns-in-Open-clause-state c =
    let there = subst (λ (xs : List Standing). At (Open c.in-Open.place) xs c.in-Some.node) c.as_slice.ensures c.in-Open.ensures in
    subst (λ (s : Search). Holds c.args.rows.now None s) (sym c.merge.ensures.others)
    (merged (taken c.pop.new.self c.in-Some.node c.requires.state c.requires.top c.requires.more c.in-Some.ensures)
    (taken_reach c.pop.new.self c.in-Some.node c.requires.state c.requires.top c.requires.more c.in-Some.ensures) there c.merge.ensures.groups)

pub returns-in-Closed-clause-state : goal.returns-in-Closed-clause-state
returns-in-Closed-clause-state c =
    let there = subst (λ (xs : List Standing). At (Closed c.in-Closed.field-0) xs c.in-Some.node) c.as_slice.ensures c.in-Closed.ensures in
    skipped (taken c.pop.new.self c.in-Some.node c.requires.state c.requires.top c.requires.more c.in-Some.ensures) there
