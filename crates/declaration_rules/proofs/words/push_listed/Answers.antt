use Rattle.declaration_rules.specs.Words.{listed}
use Rattle.declaration_rules.proofs.Gathering.{maps-all, maps-next}
use Rattle.declaration_rules.proofs.words.push_listed.Goals as goal

pub loop-alias-preserved : goal.loop-alias-preserved
loop-alias-preserved c =
    maps-next listed c.args.out.now c.loop-alias.out c.push_word.new.out c.args.names.now c.loop-alias.alias-index c.alias-item.result c.loop-alias-test.true c.alias-item.is c.loop-alias.invariant
    c.in_ok-push_word.ensures

pub returns : goal.returns
returns c = maps-all listed c.args.out.now c.loop-alias.out c.args.names.now c.loop-alias.alias-index c.loop-alias-test.false c.loop-alias.invariant
