use Rattle.std.proofs.Common.{[]}
use Rattle.declaration_rules.specs.Words.{element_words_of, if_declared}
use Rattle.declaration_rules.proofs.Gathering.{gathers-all, gathers-next}
use Rattle.declaration_rules.proofs.words.element_words.Goals as goal

pub loop-item-preserved : goal.loop-item-preserved
loop-item-preserved c =
    gathers-next (if_declared element_words_of) [] c.loop-item.words c.push_element_words.new.out c.args.items.now c.loop-item.item-index c.item-item.result c.loop-item-test.true c.item-item.is c.loop-item.invariant
    c.in_ok-push_element_words.ensures

pub returns : goal.returns
returns c = gathers-all (if_declared element_words_of) [] c.loop-item.words c.args.items.now c.loop-item.item-index c.loop-item-test.false c.loop-item.invariant
