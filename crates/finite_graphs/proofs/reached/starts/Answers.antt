use Rattle.std.proofs.Common.{◌+◌, ℕ, List, Bool, false, sym, subst}
use Rattle.finite_graphs.specs.Reached.{AreStarts}
use Rattle.finite_graphs.specs.Walks.{At}
use Rattle.finite_graphs.proofs.Lists.{at_here}
use Rattle.finite_graphs.proofs.Spreading.{starts_done, starts_init, starts_no, starts_yes}
use Rattle.finite_graphs.proofs.reached.starts.Goals as goal
use Rattle.finite_graphs.proofs.reached.starts.Goals.{then-mark+in_ok-push, else-mark}

pub loop-node-init : goal.loop-node-init
loop-node-init c = starts_init c.args.marks.now c.new-waiting.result c.new-waiting.ensures

pub loop-node-preserved : goal.loop-node-preserved
loop-node-preserved c =
    let here = at_here c.args.marks.now c.loop-node.node false c.loop-node-test.true in
    elim c.if-mark.branch [
      | then-mark+in_ok-push w ↦
          subst (λ (xs : List ℕ). AreStarts c.args.marks.now (c.loop-node.node + 1) xs) (sym w.waiting-is)
          (starts_yes c.loop-node.node c.loop-node.invariant (subst (λ (b : Bool). At b c.args.marks.now c.loop-node.node) w.if-mark.true here) w.in_ok-push.ensures.ok)
      | else-mark w ↦
          subst (λ (xs : List ℕ). AreStarts c.args.marks.now (c.loop-node.node + 1) xs) (sym w.waiting-is)
          (starts_no c.loop-node.node c.loop-node.invariant (subst (λ (b : Bool). At b c.args.marks.now c.loop-node.node) w.if-mark.false here))
    ]

pub returns : goal.returns
returns c = starts_done c.loop-node.node c.loop-node-test.false c.loop-node.invariant
