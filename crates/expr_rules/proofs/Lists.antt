-- Lists of what values have in common, and of what is made of parts.
use Rattle.std.proofs.Common.{◌≡◌, ℕ, ◌+◌, ◌<◌, List, [], ◌∷◌, drop, length, get_or, sym, ◌∙◌, ap, refl, Option, Some, None}
use Rattle.value_types.specs.declared.types.Ty.{Ty}
use Rattle.value_types.specs.CommonTypes.{common}
use Rattle.value_types.proofs.ConversionLemmas.{left_at}
use Rattle.typed_tree.specs.declared.expressions.TypedExpr.{TypedExpr}
use Rattle.typed_tree.specs.Typed.{expr_ty}
use Rattle.expr_rules.specs.Own.{common_from}

-- without a common type of the first values there is none
common_from-none : (es : List TypedExpr) → common_from None es ≡ None
common_from-none [] = refl
common_from-none (e ∷ es) = common_from-none es

pub none_in_common : (t : Ty) (es : List TypedExpr) (i : ℕ) (e : TypedExpr) (found whole : Option Ty) → i < length es → e ≡ get_or es i e → found ≡ common t (expr_ty e) → found ≡ None
    → whole ≡ common_from (Some t) (drop i es) → None ≡ whole
none_in_common t es i e found whole within at_e f n w =
    sym (w ∙ ap (common_from (Some t)) (left_at es i e within at_e) ∙ ap (λ o. common_from o (drop (i + 1) es)) (sym f ∙ n) ∙ common_from-none (drop (i + 1) es))
