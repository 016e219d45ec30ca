use Rattle.std.proofs.Common.{◌≤◌, subst}
use Rattle.dep_list.specs.Lists.{state}
use Rattle.dep_list.proofs.WalkLemmas.{start_outside}
use Rattle.dep_list.proofs.lists.Lists.start.Goals as goal

pub returns : goal.returns
returns c = start_outside (state c.args.self.now) c.requires c.args.side c.args.key (subst (λ m. m ≤ c.args.key) c.admitted.ensures c.if-key-admitted.false)
