use Rattle.std.proofs.Common.{◌∙◌, ap}
use Rattle.fault_order.specs.Order.{first_of}
use Rattle.source_outline.specs.Marked.{marked_from}
use Rattle.source_outline.proofs.Endless.{first_endless}
use Rattle.source_outline.proofs.sketching.first_endless_link.Goals as goal

pub returns : goal.returns
returns c = first_endless c.args.followers.now c.args.nexts.now _ c.in_ok-circles.circles.nodes c.in_ok-circles.circles.edges _ c.in_ok-graph.ensures c.in_ok-circles.ensures
    (c.first_marked.ensures ∙ ap (λ ms. first_of (marked_from ms 0 c.args.followers.now)) c.as_slice.ensures)
