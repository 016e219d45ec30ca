use Rattle.std.proofs.Common.{[], ap, ◌++◌, ◌∙◌, ◌∷◌}
use Rattle.declaration_rules.specs.Words.{given}
use Rattle.declaration_rules.proofs.Gathering.{maps-all, maps-next}
use Rattle.declaration_rules.proofs.words.push_given.Goals as goal

pub loop-alias-preserved : goal.loop-alias-preserved
loop-alias-preserved c =
    maps-next given c.args.out.now c.loop-alias.out c.push_word.new.out c.args.names.now c.loop-alias.alias-index c.alias-item.result c.loop-alias-test.true c.alias-item.is c.loop-alias.invariant
    (c.in_ok-push_word.ensures ∙ ap (λ word. c.loop-alias.out ++ word ∷ []) c.given.ensures)

pub returns : goal.returns
returns c = maps-all given c.args.out.now c.loop-alias.out c.args.names.now c.loop-alias.alias-index c.loop-alias-test.false c.loop-alias.invariant
