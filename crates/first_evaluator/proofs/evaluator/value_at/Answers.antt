use Rattle.std.proofs.Common.{◌≡◌, ℕ, List, sym, ◌∙◌, subst, arith}
use Rattle.std.specs.List.{All}
use Rattle.std.proofs.lemmas.List.{length-take-le}
use Rattle.first_evaluator.specs.declared.resolving.Operand.{Operand}
use Rattle.first_evaluator.specs.Evaluated.{IsWithin}
use Rattle.first_evaluator.proofs.EvaluatedValues.{sum_at_within}
use Rattle.first_evaluator.proofs.evaluator.value_at.Goals as goal

-- products over the first properties are over the values taken of them
taken : (count place : ℕ) (sum products : List (List Operand)) → place ≡ count → products ≡ sum → All (All (IsWithin place)) sum → All (All (IsWithin count)) products
taken count place sum products same is within =
    subst (λ (n : ℕ). All (All (IsWithin n)) products) same (subst (λ (ps : List (List Operand)). All (All (IsWithin place)) ps) (sym is) within)

pub sum_value-requires : goal.sum_value-requires
sum_value-requires c =
    taken _ c.args.place _ _ (sym (length-take-le c.args.place c.args.values.now (omega (arith, c.requires.within, c.requires.values)))) (c.as_slice.ensures ∙ c.sum_at.ensures.sum)
    (sum_at_within c.args.component.now c.args.place c.sum_at.ensures.bound c.requires.within)
