use Rattle.slint_literals.proofs.RunTexts.{run_utf8}
use Rattle.slint_literals.proofs.laws.runs_are_texts.Goals as goal

pub returns : goal.returns
returns c = run_utf8
