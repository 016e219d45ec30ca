use Rattle.declaration_rules.specs.Repeats.{repeat_in}
use Rattle.declaration_rules.proofs.Telling.{tells-all, tells-next}
use Rattle.declaration_rules.proofs.exports.first_among.Goals as goal

pub loop-word-preserved : goal.loop-word-preserved
loop-word-preserved c =
    tells-next (repeat_in c.args.names.now) c.loop-word.first c.repeat_in.result c.earlier-first.result c.args.words.now c.loop-word.word-index c.word-item.result c.loop-word-test.true c.word-item.is c.loop-word.invariant c.repeat_in.ensures c.earlier-first.ensures

pub returns : goal.returns
returns c = tells-all (repeat_in c.args.names.now) c.loop-word.first c.args.words.now c.loop-word.word-index c.loop-word-test.false c.loop-word.invariant
