use Rattle.std.proofs.Common.{◌++◌, [], ◌∷◌, ℕ, map, refl, ap, ◌∙◌}
use Rattle.alias_merge.specs.Numbers.{element_size}
use Rattle.alias_merge.proofs.Passes.{behind_end, mapped_turn}
use Rattle.alias_merge.proofs.numbers.add_elements.Goals as goal

pub loop-element-preserved : goal.loop-element-preserved
loop-element-preserved c =
    mapped_turn element_size c.loop-element.sizes c.push.new.self (c.args.sizes.now ++ map element_size c.args.elements.now) c.args.elements.now c.loop-element.element-index _ c.loop-element-test.true c.loop-element.invariant
    (c.in_ok-push.ensures.ok ∙ ap (λ (n : ℕ). c.loop-element.sizes ++ n ∷ []) c.member_count.ensures)

pub returns : goal.returns
returns c =
    behind_end (map element_size) c.loop-element.sizes (c.args.sizes.now ++ map element_size c.args.elements.now) c.args.elements.now c.loop-element.element-index refl c.loop-element-test.false c.loop-element.invariant
