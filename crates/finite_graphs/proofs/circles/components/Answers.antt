use Rattle.std.proofs.Common.{List, ℕ, subst}
use Rattle.finite_graphs.specs.Circles.{AreLabels}
use Rattle.finite_graphs.proofs.Marking.{components_are}
use Rattle.finite_graphs.proofs.circles.components.Goals as goal

pub returns : goal.returns
returns c = components_are c.in_ok-rows.ensures.rows c.in_ok-rows.ensures.within (subst (λ (xs : List (List ℕ)). AreLabels xs c.in_ok-labels.labels) c.as_slice.ensures.value c.in_ok-labels.ensures)
