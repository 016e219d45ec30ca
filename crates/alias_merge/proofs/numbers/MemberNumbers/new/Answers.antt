use Rattle.std.proofs.Common.{◌++◌, List, ℕ, map, ap, ◌∙◌}
use Rattle.std.specs.Prelude.{sum}
use Rattle.typed_tree.specs.declared.trees.TypedComponent.{TypedComponent}
use Rattle.typed_tree.specs.declared.trees.TypedGlobal.{TypedGlobal}
use Rattle.typed_tree.specs.declared.trees.TypedTree.{TypedTree}
use Rattle.expanded_tree.specs.declared.bodies.Body.{Body}
use Rattle.expanded_tree.specs.declared.elements.ExpandedElement.{ExpandedElement}
use Rattle.alias_merge.specs.Numbers.{blocks_from, body_size, element_size, global_size}
use Rattle.alias_merge.proofs.Numbering.{numbers_made}
use Rattle.alias_merge.proofs.numbers.MemberNumbers.new.Goals as goal

pub returns : goal.returns
returns c =
    numbers_made c.args.expanded.now c.add_globals.new.sizes c.add_bodies.new.sizes c.add_elements.new.sizes c.len-bodies_from.result c.len-elements_from.result c.in_ok-total.field-0 c.in_ok-blocks.field-0
    (c.in_ok-add_globals.ensures ∙ (ap (λ (xs : List ℕ). xs ++ map global_size c.as_slice.result.now) c.new-sizes.ensures
    ∙ ap (λ (gs : List TypedGlobal). map global_size gs) (c.as_slice.ensures ∙ ap (λ (t : TypedTree). t.globals) c.tree-tree.ensures)))
    (c.in_ok-add_bodies.ensures ∙ (ap (λ (cs : List TypedComponent). c.add_globals.new.sizes ++ map (body_size cs) c.bodies.result.now) (c.as_slice-2.ensures ∙ ap (λ (t : TypedTree). t.comps) c.tree-tree.ensures)
    ∙ ap (λ (bs : List Body). c.add_globals.new.sizes ++ map (body_size c.args.expanded.now.tree.comps) bs) c.bodies.ensures))
    (c.in_ok-add_elements.ensures ∙ ap (λ (xs : List ExpandedElement). c.add_bodies.new.sizes ++ map element_size xs) c.elements.ensures)
    c.len-bodies_from.ensures c.len-elements_from.ensures (c.in_ok-total.ensures ∙ ap sum c.as_slice-3.ensures) (c.in_ok-blocks.ensures ∙ ap (blocks_from 0) c.as_slice-4.ensures)
