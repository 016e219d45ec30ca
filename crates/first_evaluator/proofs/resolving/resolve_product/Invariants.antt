use Rattle.std.proofs.Common.{◌≡◌, drop}
use Rattle.std.specs.BTreeMap.{get_by_text}
use Rattle.first_evaluator.specs.Resolved.{product_of}
use Rattle.first_evaluator.proofs.AllOf.{behind_all}
use Rattle.first_evaluator.proofs.resolving.resolve_product.Given as goal

-- what is made of all factors is the operands so far and what is made of the others
abbrev pub invariant-loop-factor : goal.invariant-loop-factor
invariant-loop-factor l = product_of (λ name. get_by_text l.places name) l.factors ≡ behind_all l.operands (product_of (λ name. get_by_text l.places name) (drop l.factor-index l.factors))
