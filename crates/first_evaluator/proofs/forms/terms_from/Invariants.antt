use Rattle.std.proofs.Common.{◌≡◌, Some, drop}
use Rattle.slint_base.specs.Options.{onto_all, all_of}
use Rattle.first_evaluator.specs.First as spec
use Rattle.first_evaluator.proofs.AllOf.{behind_all}
use Rattle.first_evaluator.proofs.forms.terms_from.Given as goal

-- all that is made is what was made so far and what is made of the other operands
abbrev pub invariant-loop-operand : goal.invariant-loop-operand
invariant-loop-operand l = onto_all (Some l.fn.first) (all_of spec.added l.others) ≡ behind_all l.terms (all_of spec.added (drop l.operand-index l.others))
