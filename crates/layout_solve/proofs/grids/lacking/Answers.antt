use Rattle.layout_solve.proofs.Widening.{lacking-is, lacking_small}
use Rattle.layout_solve.proofs.grids.lacking.Goals as goal

pub returns-clause-value : goal.returns-clause-value
returns-clause-value c =
    lacking-is _ _ _ _ _ _ c.requires.wanted (record { low = c.requires.low; high = c.requires.high }) (record { low = c.total.ensures.low; high = c.total.ensures.high }) c.from.ensures c.total.ensures.sum c.max.ensures.value

pub returns-clause-small : goal.returns-clause-small
returns-clause-small c =
    lacking_small _ _ _ _ _ c.requires.wanted (record { low = c.requires.low; high = c.requires.high }) (record { low = c.total.ensures.low; high = c.total.ensures.high }) c.from.ensures c.max.ensures.value
