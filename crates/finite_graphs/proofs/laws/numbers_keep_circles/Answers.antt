use Rattle.finite_graphs.proofs.Numbers.{rank_of_thing, same_circles}
use Rattle.finite_graphs.proofs.laws.numbers_keep_circles.Goals as goal

pub returns-clause-circles : goal.returns-clause-circles
returns-clause-circles c = λ related things edges n a i h. same_circles n a i h

pub returns-clause-ranks : goal.returns-clause-ranks
returns-clause-ranks c = λ related things edges n a i r h k. rank_of_thing n a i r h k
