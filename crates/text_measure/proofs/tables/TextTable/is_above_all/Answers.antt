use Rattle.std.proofs.Common.{ap, rules}
use Rattle.text_measure.specs.Tables.{Table}
use Rattle.text_measure.proofs.Pushing.{above-last}
use Rattle.text_measure.proofs.tables.TextTable.is_above_all.Goals as goal

pub returns-in-Some : goal.returns-in-Some
returns-in-Some c =
    above-last c.args.self.now c.deref.result.now c.self.inside.characters.items c.self.inside.widths.items c.in-Some.last.now c.args.ch
    c.deref.ensures.value (ap (λ (t : Table). t.pairs) c.self.view_is) (search (rules, c.self.invariant)) (search rules)
