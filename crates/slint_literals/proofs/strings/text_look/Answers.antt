use Rattle.slint_literals.proofs.Looks.{escape_within, at_look}
use Rattle.slint_literals.proofs.strings.text_look.Goals as goal

pub returns-in-92-clause-within : goal.returns-in-92-clause-within
returns-in-92-clause-within c = at_look _ _ _ _ c.escape_look.ensures c.in-Some.ensures.cases.1 (escape_within c.in-Some.behind.now)
