use Rattle.std.proofs.Common.{◌≡◌, drop}
use Rattle.slint_base.specs.Options.{all_of}
use Rattle.first_evaluator.specs.First as spec
use Rattle.first_evaluator.proofs.AllOf.{behind_all}
use Rattle.first_evaluator.proofs.forms.first_props.Given as goal

-- all properties are those so far and those of the other items
abbrev pub invariant-loop-item : goal.invariant-loop-item
invariant-loop-item l = all_of spec.first_item l.body ≡ behind_all l.props (all_of spec.first_item (drop l.item-index l.body))
