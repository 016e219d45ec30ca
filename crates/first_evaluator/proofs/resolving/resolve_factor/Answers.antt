use Rattle.std.proofs.Common.{◌≡◌, ℕ, false, List, Option, None, Some, cond, option_map, sym, ap, ◌∙◌}
use Rattle.first_evaluator.specs.declared.trees.Factor.{Factor}
use Rattle.first_evaluator.specs.declared.trees.Factor.TheVariants.{Named}
use Rattle.first_evaluator.specs.Bindings.{has_name, reserved_words}
use Rattle.first_evaluator.specs.declared.resolving.Operand.{Operand}
use Rattle.first_evaluator.specs.declared.resolving.Operand.TheVariants.{Property}
use Rattle.first_evaluator.specs.Resolved.{operand_of}
use Rattle.first_evaluator.proofs.resolving.resolve_factor.Goals as goal

-- a name that is no reserved word and has a place
placed : (place_of : List ℕ → Option ℕ) (factor : Factor) (name bytes : List ℕ) (place : ℕ) → factor ≡ Named name → bytes ≡ name → has_name reserved_words bytes ≡ false
    → place_of bytes ≡ Some place → ◌≡◌ {A = Option Operand} (Some (Property place)) (operand_of place_of factor)
placed place_of factor name bytes place is same free found = sym
    (ap (operand_of place_of) is ∙ ap (λ n. operand_of place_of (Named n)) (sym same) ∙ ap (λ b. cond b None (option_map (λ p. Property p) (place_of bytes))) free ∙ ap (option_map (λ p. Property p)) found)

pub returns-in_ok-place-in-Named : goal.returns-in_ok-place-in-Named
returns-in_ok-place-in-Named c = placed _ c.args.factor.now c.in-Named.name c.as_str-name.result.now c.in_ok-place-in-Named.place.now c.in-Named.is c.as_str-name.ensures (sym c.is_reserved.ensures ∙ c.if-is_reserved.false) (sym c.in_ok-place-in-Named.ensures.value)
