use Rattle.std.proofs.Common.{rules, refl, None, replicate, ap, ◌∙◌}
use Rattle.first_evaluator.proofs.EvaluatedValues.{shows_opening}
use Rattle.first_evaluator.proofs.evaluator.Evaluator.new.Goals as goal

pub returns : goal.returns
returns c = (refl, c.in_ok-assigned.ensures.items_if_clones_equal (λ y clone. search rules) ∙ ap (λ n. replicate n None) c.count-count.ensures.count ∙ shows_opening c.args.component.props)
