use Rattle.std.proofs.Common.{length, ap, ◌∙◌}
use Rattle.dep_list.specs.Pairs.{Pairs}
use Rattle.dep_list.specs.Lists.{state}
use Rattle.dep_list.proofs.SeenLemmas.{count_is}
use Rattle.dep_list.proofs.dependencies.Deps.pairs.Goals as goal

pub returns : goal.returns
returns c = count_is (state c.self.inside.lists) c.self.invariant ∙ ap (λ (p : Pairs). length p.pairs) c.self.view_is
