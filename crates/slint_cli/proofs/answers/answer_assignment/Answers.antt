use Rattle.std.proofs.Common.{rules}
use Rattle.slint_cli.proofs.answers.answer_assignment.Goals as goal

pub returns-clause-answered : goal.returns-clause-answered
returns-clause-answered c = λ world name shows at. let assigned = c.assign.ensures.shows world name shows at in (c.in_ok-extend_from_slice.ensures.items, search (rules, assigned))
