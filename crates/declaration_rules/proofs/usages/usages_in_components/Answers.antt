use Rattle.std.proofs.Common.{◌∙◌, ◌++◌, ap, sym}
use Rattle.std.specs.List.{flat_map}
use Rattle.source_scopes.specs.Shown.{shown_component}
use Rattle.declaration_rules.specs.Circles.{usages_in_component, usage_of_element}
use Rattle.declaration_rules.specs.Words.{words_of_component}
use Rattle.declaration_rules.proofs.Using.{views-all, views-length, views-next}
use Rattle.declaration_rules.proofs.usages.usages_in_components.Goals as goal

pub loop-number-preserved : goal.loop-number-preserved
loop-number-preserved c =
    views-next (usages_in_component c.args.scopes.now) shown_component c.loop-number.usages c.push_component.new.out c.args.components.now c.loop-number.number c.index-components-number.result c.loop-number-test.true c.index-components-number.is c.loop-number.invariant
    (c.in_ok-push_component.ensures ∙ ap (λ n. c.loop-number.usages ++ flat_map (usage_of_element c.args.scopes.now n c.index-components-number.result.file) (words_of_component c.index-components-number.result.component.now)) (sym (views-length shown_component c.args.components.now c.loop-number.number c.loop-number-test.true)))

pub returns : goal.returns
returns c = views-all (usages_in_component c.args.scopes.now) shown_component c.loop-number.usages c.args.components.now c.loop-number.number c.loop-number-test.false c.loop-number.invariant
