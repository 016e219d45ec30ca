use Rattle.property_cells.specs.Marks.{state_at}
use Rattle.property_cells.specs.Hits.{named}
use Rattle.property_cells.proofs.AssignHeld.{Unmakes-none}
use Rattle.property_cells.proofs.marks.Marks.follow_value.Goals as goal

pub returns-in-Some-clause-unmade : goal.returns-in-Some-clause-unmade
returns-in-Some-clause-unmade c = rw c.in-Some.is c.follow.ensures.unmade

pub returns-in-None-clause-unmade : goal.returns-in-None-clause-unmade
returns-in-None-clause-unmade c = rw c.in-None.is (Unmakes-none (named c.args.points.now.entries.items c.args.deps.now.pairs) c.args.cell (λ f. ⊥) (state_at c.args.self.now.cells.items) (λ f h. h))
