use Rattle.std.proofs.Common.{Bool, List, ap, ◌∙◌}
use Rattle.std.specs.Prelude.{false, replicate}
use Rattle.finite_graphs.specs.declared.edge.Edge.{Edge}
use Rattle.alias_merge.specs.ChoosingSteps.{start_of, starts_of, with_marks}
use Rattle.alias_merge.proofs.Aheads.{marks_turn}
use Rattle.alias_merge.proofs.Passes.{fold_end}
use Rattle.alias_merge.proofs.choosing.starts.Goals as goal

pub loop-link-init : goal.loop-link-init
loop-link-init c =
    ap (λ (now : List Bool). with_marks (start_of c.args.marks.now) now c.edges-link-items.result.now) (c.in_ok-starts.ensures ∙ ap (λ n. replicate n false) c.nodes.ensures)
    ∙ ap (λ (es : List Edge). with_marks (start_of c.args.marks.now) (replicate c.args.links.now.nodes false) es) c.edges-link-items.ensures.all

pub loop-link-preserved : goal.loop-link-preserved
loop-link-preserved c =
    marks_turn (start_of c.args.marks.now) c.loop-link.starts c.mark.new.marks (starts_of c.args.links.now.nodes c.args.marks.now c.args.links.now.edges) c.edges-link-items.result.now c.loop-link.link-index _ c.start_of.result
    c.loop-link-test.true c.loop-link.invariant c.start_of.ensures c.mark.ensures

pub returns : goal.returns
returns c = fold_end _ c.loop-link.starts _ c.edges-link-items.result.now c.loop-link.link-index c.loop-link-test.false c.loop-link.invariant
