use Rattle.std.proofs.Common.{◌≡◌, [], sym, ◌∙◌, ap, length, arith}
use Rattle.std.proofs.lemmas.Grind.{common_steps}
use Rattle.typed_tree.specs.Declarers.{declares}
use Rattle.typed_tree.specs.Elements.{is_among, lineage}
use Rattle.typed_tree.proofs.Walks.{no_items, none_declares}
use Rattle.typed_tree.proofs.names.Names.declaring_base.Goals as goal

pub returns-then-is_empty : goal.returns-then-is_empty
returns-then-is_empty c =
    let none : length c.numbers_of-declarers.result.now ≡ 0 = grind (arith, common_steps) in
    let empty : c.numbers_of-declarers.result.now ≡ [] = no_items c.numbers_of-declarers.result.now none in
    none_declares c.args.self.now.comps c.args.name.now (lineage c.args.self.now.comps c.args.ty).comps
    (λ d. sym (sym (ap (λ numbers. is_among numbers d) empty) ∙ ap (λ numbers. is_among numbers d) c.numbers_of-declarers.ensures ∙ c.self.invariant.declare c.args.name.now d ∙ ap (λ o. declares o.comps c.args.name.now d) c.self.view_is))
