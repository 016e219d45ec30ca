use Rattle.std.proofs.Common.{◌≡◌, ℕ, List, ◌∷◌, [], length, sym, ap, ◌∙◌, subst, arith, length-append}
use Rattle.finite_graphs.specs.declared.search.Group.{Group}
use Rattle.finite_graphs.specs.Walks.{At}
use Rattle.finite_graphs.proofs.Lists.{at_read, at_within}
use Rattle.finite_graphs.proofs.RowLemmas.{row_leads}
use Rattle.finite_graphs.proofs.Searching.{open_step, load_open}
use Rattle.finite_graphs.proofs.search.Search.open.Goals as goal

pub prove-unreachable-requires : goal.prove-unreachable-requires
prove-unreachable-requires c = let w = at_within c.requires.new in omega (arith, w, c.len.ensures)

pub prove-unreachable-requires-2 : goal.prove-unreachable-requires-2
prove-unreachable-requires-2 c = let w = at_within c.requires.new in let n = c.requires.state.2.sized in omega (arith, w, n)

pub returns : goal.returns
returns c =
    let s = c.requires.state.2 in
    let w = at_within c.requires.new in
    let n = s.sized in
    let row = at_read c.args.rows.now c.args.node c.index-rows-node.result (omega (arith, w, n)) c.index-rows-node.is in
    let on : c.as_slice.result.now ≡ c.index-rows-node.result = c.as_slice.ensures in
    let stands : At c.as_slice.result.now c.args.rows.now c.args.node = subst (λ (xs : List ℕ). At xs c.args.rows.now c.args.node) (sym on) row in
    let new : Group = record { path_start = c.len-path_start.result; ahead_start = c.len-ahead_start.result } in
    let step = open_step c.args.node c.as_slice.result.now new c.set.new.self c.push.new.self c.append.new.items c.push-2.new.self s c.requires.state.1 c.requires.reached c.requires.new
    (λ b h. record { row = c.as_slice.result.now; stands = stands; among = h }) (row_leads stands)
    c.len-path_start.ensures c.len-ahead_start.ensures c.set.ensures c.in_ok-push.ensures.ok c.in_ok-append.ensures.all c.in_ok-push-2.ensures.ok in
    record {
      state = step.state;
      fewer = step.fewer;
      met = step.met;
      lighter = load_open _ _ _ _ _ _ (length c.as_slice.result.now) step.seen
          (ap length c.in_ok-append.ensures.all ∙ length-append c.args.self.now.ahead c.as_slice.result.now)
          (ap length c.in_ok-push-2.ensures.ok ∙ length-append c.args.self.now.groups (new ∷ [])) c.in_ok-append.ensures.fits;
    }
