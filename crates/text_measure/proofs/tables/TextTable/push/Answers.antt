use Rattle.std.proofs.Common.{ap, rules}
use Rattle.text_measure.specs.Tables.{Table}
use Rattle.text_measure.proofs.Pushing.{pushed, rises}
use Rattle.text_measure.proofs.tables.TextTable.push.Goals as goal

pub invariant_of-self-else-is_err : goal.invariant_of-self-else-is_err
invariant_of-self-else-is_err c = (
  search rules,
  rises c.args.self.now c.self.inside.characters.items c.self.inside.widths.items _ c.args.ch (ap (λ (t : Table). t.pairs) c.self.view_is)
      (search (rules, c.self.invariant)) c.self.invariant.1 c.requires (search rules),
)

pub returns-clause-ok : goal.returns-clause-ok
returns-clause-ok c =
    pushed c.args.self.now c.self.inside.line c.self.inside.default c.self.inside.characters.items c.self.inside.widths.items c.push.new.self.items c.push-2.new.self.items
    c.args.ch c.args.width c.self.view_is (search (rules, c.self.invariant)) (search rules) (search rules)
