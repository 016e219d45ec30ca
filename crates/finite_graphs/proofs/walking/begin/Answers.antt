use Rattle.finite_graphs.proofs.Labels.{begun}
use Rattle.finite_graphs.proofs.walking.begin.Goals as goal

pub returns-clause-state : goal.returns-clause-state
returns-clause-state c = rw (c.new.ensures, c.new-2.ensures, c.new-3.ensures) (begun _ c.in_ok-new_places.field-0 c.requires.within c.in_ok-new_places.ensures)
