use Rattle.std.proofs.Common.{[], ap, ◌++◌, ◌∙◌, ◌∷◌}
use Rattle.declaration_rules.specs.Repeats.{name_of}
use Rattle.declaration_rules.proofs.Gathering.{maps-all, maps-next}
use Rattle.declaration_rules.proofs.exports.push_names.Goals as goal

pub loop-word-preserved : goal.loop-word-preserved
loop-word-preserved c =
    maps-next name_of c.args.names.now c.loop-word.names c.push.new.self c.args.words.now c.loop-word.word-index c.word-item.result c.loop-word-test.true c.word-item.is c.loop-word.invariant
    (c.in_ok-push.ensures ∙ ap (λ name. c.loop-word.names ++ name ∷ []) c.name.ensures)

pub returns : goal.returns
returns c = maps-all name_of c.args.names.now c.loop-word.names c.args.words.now c.loop-word.word-index c.loop-word-test.false c.loop-word.invariant
