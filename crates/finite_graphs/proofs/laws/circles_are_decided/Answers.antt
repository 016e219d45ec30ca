use Rattle.finite_graphs.proofs.Deciding.{circle_decided, reaches_decided}
use Rattle.finite_graphs.proofs.laws.circles_are_decided.Goals as goal

pub returns-clause-walks : goal.returns-clause-walks
returns-clause-walks c = λ edges a b. reaches_decided edges a b

pub returns-clause-circles : goal.returns-clause-circles
returns-clause-circles c = λ edges a. circle_decided edges a
