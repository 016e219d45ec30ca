use Rattle.std.proofs.Common.{map, length, ◌∙◌, ap}
use Rattle.typed_tree.specs.Bases.{root_type}
use Rattle.typed_tree.proofs.BaseWalks.{as_many, base_is}
use Rattle.typed_tree.proofs.Walks.{base_goes, built_first, built_last}
use Rattle.typed_tree.proofs.names.Names.is_built_on.Goals as goal

pub loop-init : goal.loop-init
loop-init c = built_first c.args.self.now.comps _ c.args.component c.args.ty
    (as_many c.self.inside.outline.comps c.as_slice-types.result.now (c.as_slice-types.ensures ∙ c.self.invariant.based.types) ∙ ap (λ o. length o.comps) c.self.view_is)

pub loop-preserved : goal.loop-preserved
loop-preserved c = base_goes c.args.self.now.comps _ _ c.in-Component.base c.args.component c.loop-test.true c.if-base-component.false c.loop.invariant c.in-Component.is
    (base_is c.args.self.now.comps c.as_slice-types.result.now _ c.in-Component.base (c.as_slice-types.ensures ∙ c.self.invariant.based.types ∙ ap (λ o. map root_type o.comps) c.self.view_is) c.go-below.ensures)

pub returns : goal.returns
returns c = built_last c.args.self.now.comps _ _ c.args.component c.loop.below c.loop-test.false c.loop.invariant
