use Rattle.std.proofs.Common.{◌∙◌, ap}
use Rattle.expanded_tree.specs.Bodies.{inner_of}
use Rattle.inliner.proofs.Grows.{other_pushed, root_pushed}
use Rattle.inliner.proofs.growing.Growth.push_element.Goals as goal

pub returns-then-is_root : goal.returns-then-is_root
returns-then-is_root c = root_pushed c.args.comps.now c.args.body c.args.depth c.args.element c.args.ty c.args.self.now.places c.is_root.ensures c.if-is_root.true
    c.in_ok-push_root.ensures.bodies c.in_ok-push_root.ensures.places

pub returns : goal.returns
returns c = other_pushed c.args.comps.now c.args.body c.args.depth _ c.args.element c.args.ty c.args.self.now.bodies c.args.self.now.places c.is_root.ensures c.if-is_root.false
    c.in_ok-within.ensures (c.inner_of-inner.ensures ∙ ap (λ n. inner_of n c.args.ty) c.len.ensures) c.in_ok-push_lineage.ensures c.in_ok-push.ensures.ok
