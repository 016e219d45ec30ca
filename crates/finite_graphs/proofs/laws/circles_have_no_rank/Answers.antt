use Rattle.finite_graphs.proofs.Reaching.{no_rank}
use Rattle.finite_graphs.proofs.laws.circles_have_no_rank.Goals as goal

pub returns : goal.returns
returns c = λ edges a n o r. no_rank o r
