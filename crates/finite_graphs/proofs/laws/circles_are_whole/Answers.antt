use Rattle.finite_graphs.proofs.Reaching.{circle_whole}
use Rattle.finite_graphs.proofs.laws.circles_are_whole.Goals as goal

pub returns : goal.returns
returns c = λ edges a b e r. circle_whole e r
