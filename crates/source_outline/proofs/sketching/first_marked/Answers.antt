use Rattle.std.proofs.Common.{ap, ◌∙◌}
use Rattle.source_outline.specs.Marked.{told_if}
use Rattle.source_outline.proofs.FirstFaults.{marked_turn}
use Rattle.source_outline.proofs.sketching.first_marked.Goals as goal

pub loop-number-preserved : goal.loop-number-preserved
loop-number-preserved c = marked_turn c.args.marks.now c.args.followers.now c.loop-number.number c.index-followers-number.result c.loop-number.first c.told_if.result c.earlier-first.result _ c.index-followers-number.is c.loop-number-test.true
    (c.told_if.ensures ∙ ap (λ m. told_if m c.index-followers-number.result) c.at.ensures) c.earlier-first.ensures c.loop-number.invariant
