use Rattle.std.proofs.Common.{◌+◌, length, ap, ◌∙◌}
use Rattle.dep_list.specs.Pairs.{Pairs}
use Rattle.dep_list.specs.Lists.{state}
use Rattle.dep_list.proofs.SeenLemmas.{total_is}
use Rattle.dep_list.proofs.dependencies.Deps.unlink_point.Goals as goal

pub returns-clause-spare : goal.returns-clause-spare
returns-clause-spare c =
    total_is (state c.self.inside.lists) (state c.unlink.new.self) c.self.invariant c.unlink.ensures.held c.unlink.ensures.room ∙ ap (λ (p : Pairs). p.spare + length p.pairs) c.self.view_is
