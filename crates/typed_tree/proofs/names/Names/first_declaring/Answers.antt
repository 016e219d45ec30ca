use Rattle.std.proofs.Common.{map, length, sym, ◌∙◌, ap}
use Rattle.typed_tree.specs.Bases.{root_type}
use Rattle.typed_tree.proofs.BaseWalks.{as_many, base_is}
use Rattle.typed_tree.proofs.Walks.{declaring_first, declaring_goes, declaring_last}
use Rattle.typed_tree.proofs.names.Names.first_declaring.Goals as goal

pub loop-init : goal.loop-init
loop-init c = declaring_first c.args.self.now.comps c.args.name.now _ c.args.ty
    (as_many c.self.inside.outline.comps c.as_slice-types.result.now (c.as_slice-types.ensures ∙ c.self.invariant.based.types) ∙ ap (λ o. length o.comps) c.self.view_is)

pub loop-preserved : goal.loop-preserved
loop-preserved c = declaring_goes c.args.self.now.comps c.args.name.now _ _ c.in-Component.base c.loop-test.true c.loop.invariant c.in-Component.is (sym c.declares.ensures ∙ c.if-declares.false)
    (base_is c.args.self.now.comps c.as_slice-types.result.now _ c.in-Component.base (c.as_slice-types.ensures ∙ c.self.invariant.based.types ∙ ap (λ o. map root_type o.comps) c.self.view_is) c.go-below.ensures)

pub returns : goal.returns
returns c = declaring_last c.args.self.now.comps c.args.name.now _ _ c.loop.below c.loop-test.false c.loop.invariant
