use Rattle.std.proofs.Common.{[]}
use Rattle.declaration_rules.specs.Words.{listed_words_of}
use Rattle.declaration_rules.proofs.Gathering.{gathers-all, gathers-next}
use Rattle.declaration_rules.proofs.words.listed_words.Goals as goal

pub loop-item-preserved : goal.loop-item-preserved
loop-item-preserved c =
    gathers-next listed_words_of [] c.loop-item.words c.push_listed_words.new.out c.args.items.now c.loop-item.item-index c.item-item.result c.loop-item-test.true c.item-item.is c.loop-item.invariant
    c.in_ok-push_listed_words.ensures

pub returns : goal.returns
returns c = gathers-all listed_words_of [] c.loop-item.words c.args.items.now c.loop-item.item-index c.loop-item-test.false c.loop-item.invariant
