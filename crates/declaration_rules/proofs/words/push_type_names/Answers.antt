use Rattle.std.proofs.Common.{ap, ◌++◌, ◌∙◌}
use Rattle.declaration_rules.specs.Words.{word_of_written}
use Rattle.declaration_rules.specs.Words.{one_if_some}
use Rattle.declaration_rules.proofs.Gathering.{gathers-all, gathers-next}
use Rattle.declaration_rules.proofs.words.push_type_names.Goals as goal

pub loop-element-preserved : goal.loop-element-preserved
loop-element-preserved c =
    gathers-next word_of_written c.args.out.now c.loop-element.out c.push_if_some.new.out c.args.elements.now c.loop-element.element-index c.element-item.result c.loop-element-test.true c.element-item.is c.loop-element.invariant
    (c.in_ok-push_if_some.ensures ∙ ap (λ word. c.loop-element.out ++ one_if_some word) c.type_name.ensures)

pub returns : goal.returns
returns c = gathers-all word_of_written c.args.out.now c.loop-element.out c.args.elements.now c.loop-element.element-index c.loop-element-test.false c.loop-element.invariant
