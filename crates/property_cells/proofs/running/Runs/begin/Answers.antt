use Rattle.std.proofs.Common.{◌<◌, ap, ◌∙◌, ◌∷◌, subst, sym}
use Rattle.dep_list.specs.Pairs.{In}
use Rattle.property_cells.specs.Runs.{Running}
use Rattle.property_cells.proofs.RunLemmas.{begun_run, begun_list}
use Rattle.property_cells.proofs.running.Runs.begin.Goals as goal

pub invariant_of-self : goal.invariant_of-self
invariant_of-self c =
    let r = c.self.inside in
    begun_run r.below.items r.top r.count c.self.invariant c.args.cell (subst (λ (v : Running). c.args.cell < v.cells) (sym c.self.view_is) c.requires.inside) (λ h. c.requires.free (subst (λ (v : Running). In c.args.cell v.list) c.self.view_is h))

pub returns-clause-list : goal.returns-clause-list
returns-clause-list c =
    let r = c.self.inside in
    begun_list r.below.items r.top r.count c.self.invariant c.args.cell (subst (λ (v : Running). c.args.cell < v.cells) (sym c.self.view_is) c.requires.inside) (λ h. c.requires.free (subst (λ (v : Running). In c.args.cell v.list) c.self.view_is h))
    ∙ ap (λ (v : Running). c.args.cell ∷ v.list) c.self.view_is
