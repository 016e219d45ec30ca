use Rattle.declaration_rules.specs.Words.{words_of_item}
use Rattle.declaration_rules.proofs.Gathering.{gathers-all, gathers-next}
use Rattle.declaration_rules.proofs.type_words.push_body.Goals as goal

pub loop-item-preserved : goal.loop-item-preserved
loop-item-preserved c =
    gathers-next words_of_item c.args.out.now c.loop-item.out c.push_item.new.out c.args.items.now c.loop-item.item-index c.item-item.result c.loop-item-test.true c.item-item.is c.loop-item.invariant
    c.in_ok-push_item.ensures

pub returns : goal.returns
returns c = gathers-all words_of_item c.args.out.now c.loop-item.out c.args.items.now c.loop-item.item-index c.loop-item-test.false c.loop-item.invariant
