use Rattle.std.proofs.Common.{◌≤◌, ◌-◌, length, replicate, ap, ◌∙◌, None, arith}
use Rattle.std.specs.Prelude.{vec_len}
use Rattle.property_cells.specs.Runs.{Running}
use Rattle.property_cells.proofs.RunLemmas.{admitted_run, admitted_list}
use Rattle.property_cells.proofs.running.Runs.admit.Goals as goal

pub invariant_of-self : goal.invariant_of-self
invariant_of-self c =
    let r = c.self.inside in
    let short : length r.below.items ≤ c.args.cells = omega (arith, r.below.ok.0, c.len.ensures, c.if-len-cells.true) in
    admitted_run r.below.items r.top r.count c.self.invariant c.args.cells (replicate (c.args.cells - vec_len r.below) None) c.resize.new.self.items short c.in_ok-resize.ensures.items

pub returns-in_ok-resize-clause-list : goal.returns-in_ok-resize-clause-list
returns-in_ok-resize-clause-list c =
    let r = c.self.inside in
    let short : length r.below.items ≤ c.args.cells = omega (arith, r.below.ok.0, c.len.ensures, c.if-len-cells.true) in
    admitted_list r.below.items r.top r.count c.self.invariant c.args.cells (replicate (c.args.cells - vec_len r.below) None) c.resize.new.self.items short c.in_ok-resize.ensures.items
    ∙ ap (λ (v : Running). v.list) c.self.view_is
