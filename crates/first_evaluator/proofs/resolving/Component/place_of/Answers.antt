use Rattle.std.proofs.Common.{◌≡◌, false, sym, ap, ◌∙◌}
use mathlib.Core.List.{reverse}
use Rattle.first_evaluator.specs.declared.trees.FirstFile.{FirstFile}
use Rattle.first_evaluator.specs.Bindings.{has_name, names_of}
use Rattle.first_evaluator.specs.Resolved.{place_among}
use Rattle.first_evaluator.proofs.ResolvedSums.{placed, placed_within}
use Rattle.first_evaluator.proofs.resolving.Component.place_of.Goals as goal

pub returns-clause-found : goal.returns-clause-found
returns-clause-found c = placed (names_of c.args.self.now.props) c.args.name.now c.copied.result
    (ap (λ (f : FirstFile). place_among (reverse (names_of f.props)) c.args.name.now) (sym c.self.view_is) ∙ ap (place_among (reverse (names_of c.self.inside.file.props))) (sym c.as_str.ensures)
    ∙ sym (c.self.invariant.at c.as_str.result.now) ∙ sym c.get.ensures.value ∙ sym c.copied.ensures)

pub returns-clause-within : goal.returns-clause-within
returns-clause-within c = placed_within c.args.self.now.props c.args.name.now c.copied.result (has_name (names_of c.args.self.now.props) c.args.name.now ≡ false) (returns-clause-found c)
