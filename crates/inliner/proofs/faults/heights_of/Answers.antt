use Rattle.std.proofs.Common.{ap, length, ◌∙◌}
use Rattle.typed_tree.specs.declared.outlines.ElementType.TheVariants as element_type
use Rattle.inliner.specs.declared.extents.Extent.{Extent}
use Rattle.inliner.proofs.Loops.{height_more}
use Rattle.inliner.proofs.Measures.{height_is}
use Rattle.inliner.proofs.faults.heights_of.Goals as goal

pub loop-component-preserved : goal.loop-component-preserved
loop-component-preserved c = height_more c.args.comps.now c.loop-component.component c.loop-component.heights
    (c.height_of-height.ensures ∙ ap (λ (x : Extent). x.height) (c.requires.each c.loop-component.component)
    ∙ height_is (length c.args.comps.now) c.args.comps.now (element_type.Component c.loop-component.component))
    c.in_ok-push.ensures.ok c.loop-component.invariant
