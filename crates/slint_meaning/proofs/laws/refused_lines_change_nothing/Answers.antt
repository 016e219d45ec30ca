use Rattle.slint_meaning.proofs.Turns.{without_refused}
use Rattle.slint_meaning.proofs.laws.refused_lines_change_nothing.Goals as goal

pub returns : goal.returns
returns c = without_refused
