use Rattle.declaration_rules.specs.Words.{words_of_parameter}
use Rattle.declaration_rules.proofs.Gathering.{gathers-all, gathers-next}
use Rattle.declaration_rules.proofs.type_words.push_each.Goals as goal

pub loop-parameter-preserved : goal.loop-parameter-preserved
loop-parameter-preserved c =
    gathers-next words_of_parameter c.args.out.now c.loop-parameter.out c.push_type.new.out c.args.parameters.now c.loop-parameter.parameter-index c.parameter-item.result c.loop-parameter-test.true c.parameter-item.is c.loop-parameter.invariant
    c.in_ok-push_type.ensures

pub returns : goal.returns
returns c = gathers-all words_of_parameter c.args.out.now c.loop-parameter.out c.args.parameters.now c.loop-parameter.parameter-index c.loop-parameter-test.false c.loop-parameter.invariant
