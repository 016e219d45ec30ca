use Rattle.slint_meaning.proofs.Assignments.{assigned_stays}
use Rattle.slint_meaning.proofs.laws.an_assignment_stays.Goals as goal

pub returns : goal.returns
returns c = assigned_stays
