use Rattle.dep_list.specs.Lists.{state, pairs_of}
use Rattle.dep_list.proofs.WalkLemmas.{IsAhead-all}
use Rattle.dep_list.proofs.lists.Lists.has.Goals as goal

pub loop-next-init : goal.loop-next-init
loop-next-init c = IsAhead-all c.args.reader c.args.point (pairs_of (state c.args.self.now)) c.others-points.result c.others-readers.result c.others-points.ensures c.others-readers.ensures
