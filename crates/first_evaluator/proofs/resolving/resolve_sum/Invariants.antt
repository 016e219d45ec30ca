use Rattle.std.proofs.Common.{◌≡◌, drop}
use Rattle.std.specs.BTreeMap.{get_by_text}
use Rattle.first_evaluator.specs.Resolved.{sum_of}
use Rattle.first_evaluator.proofs.AllOf.{behind_all}
use Rattle.first_evaluator.proofs.resolving.resolve_sum.Given as goal

-- what is made of all terms is the products so far and what is made of the others
abbrev pub invariant-loop-factors : goal.invariant-loop-factors
invariant-loop-factors l = sum_of (λ name. get_by_text l.places name) l.terms ≡ behind_all l.products (sum_of (λ name. get_by_text l.places name) (drop l.factors-index l.terms))
