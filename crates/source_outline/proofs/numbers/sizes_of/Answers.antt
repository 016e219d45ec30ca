use Rattle.std.proofs.Common.{◌++◌, ap, ◌∙◌, map}
use Rattle.source_outline.specs.Following.{size_of_comp, size_of_global}
use Rattle.source_outline.proofs.Turns.{map_turn, map_ended}
use Rattle.source_outline.proofs.numbers.sizes_of.Goals as goal

pub loop-comp-init : goal.loop-comp-init
loop-comp-init c = ap (λ ys. ys ++ map size_of_comp c.as_slice-comp-items.result.now) c.new-sizes.ensures ∙ ap (map size_of_comp) c.as_slice-comp-items.ensures

pub loop-comp-preserved : goal.loop-comp-preserved
loop-comp-preserved c = map_turn size_of_comp c.as_slice-comp-items.result.now c.loop-comp.comp-index c.comp-item.result c.len.result c.loop-comp.sizes c.push.new.self _ c.comp-item.is c.loop-comp-test.true c.len.ensures c.in_ok-push.ensures.ok c.loop-comp.invariant

pub loop-global-init : goal.loop-global-init
loop-global-init c =
    ap (λ ys. ys ++ map size_of_global c.as_slice-global-items.result.now) (map_ended size_of_comp c.as_slice-comp-items.result.now c.loop-comp.comp-index c.loop-comp.sizes _ c.loop-comp-test.false c.loop-comp.invariant)
    ∙ ap (λ gs. map size_of_comp c.args.outline.now.comps ++ map size_of_global gs) c.as_slice-global-items.ensures

pub loop-global-preserved : goal.loop-global-preserved
loop-global-preserved c = map_turn size_of_global c.as_slice-global-items.result.now c.loop-global.global-index c.global-item.result c.len-in-loop-global.result c.loop-global.sizes c.push-in-loop-global.new.self _ c.global-item.is c.loop-global-test.true c.len-in-loop-global.ensures c.in_ok-push-2.ensures.ok c.loop-global.invariant

pub returns : goal.returns
returns c = map_ended size_of_global c.as_slice-global-items.result.now c.loop-global.global-index c.loop-global.sizes _ c.loop-global-test.false c.loop-global.invariant
