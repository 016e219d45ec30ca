use Rattle.std.proofs.Common.{[], ap, ◌++◌, ◌∙◌, ◌∷◌}
use Rattle.declaration_rules.specs.Exports.{taken_at}
use Rattle.declaration_rules.proofs.Gathering.{maps-all, maps-next}
use Rattle.declaration_rules.proofs.exports.taken_over.Goals as goal

pub loop-entry-preserved : goal.loop-entry-preserved
loop-entry-preserved c =
    maps-next (taken_at c.args.span) [] c.loop-entry.group c.push.new.self c.args.exports.now c.loop-entry.entry-index c.entry-item.result c.loop-entry-test.true c.entry-item.is c.loop-entry.invariant
    (c.in_ok-push.ensures.ok ∙ ap (λ word. c.loop-entry.group ++ word ∷ []) c.new.ensures)

pub returns : goal.returns
returns c = maps-all (taken_at c.args.span) [] c.loop-entry.group c.args.exports.now c.loop-entry.entry-index c.loop-entry-test.false c.loop-entry.invariant
