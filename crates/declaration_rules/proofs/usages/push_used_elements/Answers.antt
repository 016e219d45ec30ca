use Rattle.declaration_rules.specs.Circles.{usage_of_element}
use Rattle.declaration_rules.proofs.Gathering.{gathers-all, gathers-next}
use Rattle.declaration_rules.proofs.Using.{used-element}
use Rattle.declaration_rules.proofs.usages.push_used_elements.Goals as goal

pub loop-word-preserved : goal.loop-word-preserved
loop-word-preserved c =
    gathers-next (usage_of_element c.args.scopes.now c.args.from c.args.file) c.args.out.now c.loop-word.out c.push_component_usage.new.out c.args.words.now c.loop-word.word-index c.word-item.result c.loop-word-test.true c.word-item.is c.loop-word.invariant
    (used-element c.args.scopes.now c.args.from c.args.file c.word-item.result c.name.result.now c.span.result c.element-element.result c.loop-word.out c.push_component_usage.new.out c.name.ensures c.span.ensures c.element-element.ensures c.in_ok-push_component_usage.ensures)

pub returns : goal.returns
returns c = gathers-all (usage_of_element c.args.scopes.now c.args.from c.args.file) c.args.out.now c.loop-word.out c.args.words.now c.loop-word.word-index c.loop-word-test.false c.loop-word.invariant
