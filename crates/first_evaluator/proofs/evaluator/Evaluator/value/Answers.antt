use Rattle.std.proofs.Common.{◌≡◌, ◌+◌, ℤ, max, List, Option, Some, sym, ap, ◌∙◌, subst, arith, rules}
use mir.Syntax.{w32}
use mir.Val.{SFits}
use Rattle.std.specs.List.{slice_get}
use Rattle.std.proofs.lemmas.Int.{to_z-of_z}
use Rattle.first_evaluator.specs.Bindings.{names_of}
use Rattle.first_evaluator.specs.Values.{property_value}
use Rattle.first_evaluator.specs.Live.{Live, Shows}
use Rattle.first_evaluator.specs.Evaluated.{AreRight}
use Rattle.first_evaluator.proofs.EvaluatedValues.{value_shown}
use Rattle.first_evaluator.proofs.evaluator.Evaluator.value.Goals as goal

pub returns-clause-value : goal.returns-clause-value
returns-clause-value c = λ world name shows e.
    let is = sym c.self.view_is in
    let inside = c.self.inside in
    let values = c.evaluate-value.new.values in
    let count = max inside.fresh (c.args.place + 1) in
    let fits : SFits w32 c.evaluate-value.result = search rules in
    let right = subst (λ (assigned : List (Option ℤ)). AreRight inside.component assigned values count) c.deref.ensures.value c.evaluate-value.ensures.right in
    to_z-of_z w32 c.evaluate-value.result fits ∙ c.evaluate-value.ensures.value
    ∙ value_shown inside.component inside.assigned.items values count c.args.place c.self.invariant.bound right (omega arith) world name
    (subst (λ (live : Live). Shows live world) is shows) (subst (λ (live : Live). slice_get (names_of live.file.props) c.args.place ≡ Some name) is e)
    ∙ ap (λ (live : Live). property_value live.file world name) c.self.view_is
