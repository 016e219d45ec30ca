use Rattle.declaration_rules.specs.Declarations.{unknown_element}
use Rattle.declaration_rules.proofs.Telling.{tells-all, tells-next}
use Rattle.declaration_rules.proofs.unknown.unknown_elements.Goals as goal

pub loop-word-preserved : goal.loop-word-preserved
loop-word-preserved c =
    tells-next (unknown_element c.args.scopes.now c.args.file) c.loop-word.first c.unknown_element.result c.earlier-first.result c.args.words.now c.loop-word.word-index c.word-item.result c.loop-word-test.true c.word-item.is c.loop-word.invariant c.unknown_element.ensures c.earlier-first.ensures

pub returns : goal.returns
returns c = tells-all (unknown_element c.args.scopes.now c.args.file) c.loop-word.first c.args.words.now c.loop-word.word-index c.loop-word-test.false c.loop-word.invariant
