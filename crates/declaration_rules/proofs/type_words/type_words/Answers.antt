use Rattle.std.proofs.Common.{[]}
use Rattle.declaration_rules.specs.Words.{if_declared, type_words_of}
use Rattle.declaration_rules.proofs.Gathering.{gathers-all, gathers-next}
use Rattle.declaration_rules.proofs.type_words.type_words.Goals as goal

pub loop-item-preserved : goal.loop-item-preserved
loop-item-preserved c =
    gathers-next (if_declared type_words_of) [] c.loop-item.words c.push_type_words.new.out c.args.items.now c.loop-item.item-index c.item-item.result c.loop-item-test.true c.item-item.is c.loop-item.invariant
    c.in_ok-push_type_words.ensures

pub returns : goal.returns
returns c = gathers-all (if_declared type_words_of) [] c.loop-item.words c.args.items.now c.loop-item.item-index c.loop-item-test.false c.loop-item.invariant
