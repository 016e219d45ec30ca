use Rattle.std.proofs.Common.{◌≡◌, refl, subst, List, [], rules}
use Rattle.finite_graphs.specs.declared.search.Group.{Group}
use Rattle.finite_graphs.specs.Searching.{IsTop}
use Rattle.finite_graphs.proofs.Merging.{merging_init, merging_next, merging_top, merging_none}
use Rattle.finite_graphs.proofs.Searching.{popped_top, one_shorter}
use Rattle.finite_graphs.proofs.search.Search.merge.Goals as goal

pub loop-group-init : goal.loop-group-init
loop-group-init c = record { groups = merging_init c.args.self.now.groups c.args.place; others = refl }

pub loop-group-preserved : goal.loop-group-preserved
loop-group-preserved c =
    let top = subst (λ (xs : List Group). IsTop xs c.in-Some.group) c.as_slice.ensures c.in-Some.ensures in
    record {
      groups = merging_next c.loop-group.invariant.groups c.pop.new.self c.in-Some.group c.in-Some.group top c.if-group-place.false (popped_top c.pop.new.self c.pop.result top c.pop.ensures);
      others = search rules;
    }

pub loop-group-smaller : goal.loop-group-smaller
loop-group-smaller c =
    let top = subst (λ (xs : List Group). IsTop xs c.in-Some.group) c.as_slice.ensures c.in-Some.ensures in
    one_shorter c.pop.new.self c.in-Some.group (popped_top c.pop.new.self c.pop.result top c.pop.ensures)

pub returns-then-group-place-clause-groups : goal.returns-then-group-place-clause-groups
returns-then-group-place-clause-groups c =
    merging_top c.loop-group.invariant.groups c.in-Some.group (subst (λ (xs : List Group). IsTop xs c.in-Some.group) c.as_slice.ensures c.in-Some.ensures) c.if-group-place.true c.requires

pub returns-in_default-clause-groups : goal.returns-in_default-clause-groups
returns-in_default-clause-groups c = merging_none c.loop-group.invariant.groups (subst (λ (xs : List Group). xs ≡ []) c.as_slice.ensures c.in_default.ensures)
