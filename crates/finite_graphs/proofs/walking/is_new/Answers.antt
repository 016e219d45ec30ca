use Rattle.std.proofs.Common.{◌≡◌, refl}
use Rattle.finite_graphs.specs.declared.search.Standing.TheVariants.{New, Open, Closed}
use Rattle.finite_graphs.proofs.Lists.{at_same}
use Rattle.finite_graphs.proofs.walking.is_new.Goals as goal

pub returns-in-New : goal.returns-in-New
returns-in-New c = (λ _. c.in-New.ensures, λ _. refl)

pub returns-in-Open : goal.returns-in-Open
returns-in-Open c = (λ t. absurd (cc), λ h. let e : New ≡ Open c.in-Open.field-0 = at_same h c.in-Open.ensures in absurd (cc))

pub returns-in-Closed : goal.returns-in-Closed
returns-in-Closed c = (λ t. absurd (cc), λ h. let e : New ≡ Closed c.in-Closed.field-0 = at_same h c.in-Closed.ensures in absurd (cc))
