use Rattle.std.proofs.Common.{ap, ◌++◌, ◌∙◌}
use Rattle.declaration_rules.specs.Words.{words_of_written}
use Rattle.declaration_rules.specs.Words.{words_of_body}
use Rattle.declaration_rules.proofs.Gathering.{gathers-all, gathers-next}
use Rattle.declaration_rules.proofs.type_words.push_bodies.Goals as goal

pub loop-element-preserved : goal.loop-element-preserved
loop-element-preserved c =
    gathers-next words_of_written c.args.out.now c.loop-element.out c.push_body.new.out c.args.elements.now c.loop-element.element-index c.element-item.result c.loop-element-test.true c.element-item.is c.loop-element.invariant
    (c.in_ok-push_body.ensures ∙ ap (λ body. c.loop-element.out ++ words_of_body body) c.body.ensures)

pub returns : goal.returns
returns c = gathers-all words_of_written c.args.out.now c.loop-element.out c.args.elements.now c.loop-element.element-index c.loop-element-test.false c.loop-element.invariant
