use Rattle.std.proofs.Common.{ap, ◌∙◌}
use Rattle.dep_list.specs.Pairs.{Pairs}
use Rattle.dep_list.specs.Lists.{state}
use Rattle.dep_list.proofs.SeenLemmas.{spare_less}
use Rattle.dep_list.proofs.dependencies.Deps.link.Goals as goal

pub returns-clause-spare : goal.returns-clause-spare
returns-clause-spare c =
    spare_less (state c.self.inside.lists) (state c.link.new.self) (c.args.reader, c.args.point) c.self.invariant c.link.ensures.held c.link.ensures.room c.link.ensures.pairs ∙ ap (λ (p : Pairs). p.spare) c.self.view_is
