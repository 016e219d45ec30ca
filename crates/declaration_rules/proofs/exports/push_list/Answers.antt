use Rattle.std.proofs.Common.{[], ap, ◌++◌, ◌∙◌, ◌∷◌}
use Rattle.declaration_rules.specs.Exports.{alone_given}
use Rattle.declaration_rules.specs.Exports.{alone}
use Rattle.declaration_rules.proofs.Gathering.{maps-all, maps-next}
use Rattle.declaration_rules.proofs.exports.push_list.Goals as goal

pub loop-alias-preserved : goal.loop-alias-preserved
loop-alias-preserved c =
    maps-next alone_given c.args.out.now c.loop-alias.out c.push_alone.new.out c.args.names.now c.loop-alias.alias-index c.alias-item.result c.loop-alias-test.true c.alias-item.is c.loop-alias.invariant
    (c.in_ok-push_alone.ensures ∙ ap (λ word. c.loop-alias.out ++ alone word ∷ []) c.given.ensures)

pub returns : goal.returns
returns c = maps-all alone_given c.args.out.now c.loop-alias.out c.args.names.now c.loop-alias.alias-index c.loop-alias-test.false c.loop-alias.invariant
