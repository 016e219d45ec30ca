use Rattle.declaration_rules.specs.Declarations.{unlisted}
use Rattle.declaration_rules.proofs.Telling.{tells-all, tells-next}
use Rattle.declaration_rules.proofs.unknown.first_unlisted.Goals as goal

pub loop-word-preserved : goal.loop-word-preserved
loop-word-preserved c =
    tells-next (unlisted c.args.names.now) c.loop-word.first c.unlisted.result c.earlier-first.result c.args.words.now c.loop-word.word-index c.word-item.result c.loop-word-test.true c.word-item.is c.loop-word.invariant c.unlisted.ensures c.earlier-first.ensures

pub returns : goal.returns
returns c = tells-all (unlisted c.args.names.now) c.loop-word.first c.args.words.now c.loop-word.word-index c.loop-word-test.false c.loop-word.invariant
