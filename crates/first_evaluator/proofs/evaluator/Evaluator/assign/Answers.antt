use Rattle.std.proofs.Common.{◌≡◌, Some, sym, ap, ◌∙◌, subst, set}
use Rattle.std.specs.List.{slice_get}
use mir.Syntax.{w32}
use Rattle.std.proofs.lemmas.Int.{to_z-of_z}
use Rattle.first_evaluator.specs.Bindings.{names_of}
use Rattle.first_evaluator.specs.Live.{Live, Shows}
use Rattle.first_evaluator.proofs.EvaluatedValues.{shows_assign}
use Rattle.first_evaluator.proofs.evaluator.Evaluator.assign.Goals as goal

pub returns-clause-shows : goal.returns-clause-shows
returns-clause-shows c = λ world name shows e.
    let is = sym c.self.view_is in
    ap (λ v. set c.self.inside.assigned.items c.args.place (Some v)) (to_z-of_z w32 c.args.value c.ranges.value)
    ∙ shows_assign world name c.args.value c.self.inside.component.props c.self.inside.assigned.items c.args.place c.self.invariant.bound
    (subst (λ (live : Live). Shows live world) is shows) (subst (λ (live : Live). slice_get (names_of live.file.props) c.args.place ≡ Some name) is e)
