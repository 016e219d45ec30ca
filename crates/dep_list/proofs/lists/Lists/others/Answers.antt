use Rattle.dep_list.specs.Lists.{state}
use Rattle.dep_list.proofs.WalkLemmas.{others_all}
use Rattle.dep_list.proofs.lists.Lists.others.Goals as goal

pub returns : goal.returns
returns c = others_all (state c.args.self.now) c.requires c.args.side c.args.key c.start-at.result c.start-at.ensures
