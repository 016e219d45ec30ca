-- What is told by the judgement of one item, condition or model.
use Rattle.std.proofs.Common.{◌≡◌, ℕ, List, Result, Ok, Err, refl, sym, subst}
use Rattle.slint_base.specs.declared.endings.End.{End}
use Rattle.slint_base.specs.declared.endings.End.TheVariants as ends
use Rattle.slint_base.specs.declared.faults.Fault.{Fault}
use Rattle.slint_base.specs.declared.faults.Span.{Span}
use Rattle.syntax_tree.specs.declared.expressions.Expr.{Expr}
use Rattle.syntax_tree.specs.declared.items.For.{For, out-For}
use Rattle.syntax_tree.specs.Spans.{expr_span}
use Rattle.typed_tree.specs.declared.expressions.TypedExpr.{TypedExpr}
use Rattle.typed_tree.specs.declared.outlines.Outline.{Outline}
use Rattle.typed_tree.specs.declared.scopes.RowNames.{RowNames}
use Rattle.typed_tree.specs.declared.scopes.Site.{Site}
use Rattle.typed_tree.specs.declared.trees.TypedFor.{TypedFor}
use Rattle.typed_tree.specs.declared.trees.TypedRepeat.TheVariants as repeats
use Rattle.item_types.specs.Judging.{Judging, Tells, something, fault}
use Rattle.item_types.specs.Typing.{Judges, condition_in, model_in}
use Rattle.item_types.proofs.Telling.{Sound, made_in_err, made_in_ok}
use Rattle.type_resolver.specs.declared.elements.Inside.{Inside}
use Rattle.type_resolver.specs.Bodies.{for_each_row, in_each_row, while_holds}

pub told_result : {X : Type 0} (j : Judging X) {r : Result X (End Fault)} {x : X} → r ≡ Ok x → Judges j r → Tells j (Ok x)
told_result j e p = something (subst (Judges j) e p)

pub told_fault : {X : Type 0} (j : Judging X) {r : Result X (End Fault)} {f : Fault} → r ≡ Err (ends.Fault f) → Judges j r → Tells j (Err f)
told_fault j e p = fault (subst (Judges j) e p)

-- of an element that is there while a condition holds
abbrev while_true : Span → List RowNames → TypedExpr → Inside
while_true span rows t = record { repeat = repeats.If t span; rows = rows }

pub held : (o : Outline) (around : Site) (e : Expr) (rows : List RowNames) → Sound (condition_in o around rows e) → {r : Result TypedExpr (End Fault)} {t : TypedExpr} {same : List RowNames}
    → {span : Span} → r ≡ Ok t → Judges (condition_in o around rows e) r → same ≡ rows → span ≡ expr_span e → Tells (while_holds o around e rows) (Ok (while_true span same t))
held o around e rows sound {t = t} {same = same} is told rows_same span_is =
    subst (λ s. Tells (while_holds o around e rows) (Ok (while_true s same t))) (sym span_is)
    (subst (λ rs. Tells (while_holds o around e rows) (Ok (while_true (expr_span e) rs t))) (sym rows_same) (made_in_ok (condition_in o around rows e) (while_true (expr_span e) rows) sound refl (told_result (condition_in o around rows e) is told)))

pub not_held : (o : Outline) (around : Site) (e : Expr) (rows : List RowNames) → Sound (condition_in o around rows e) → {r : Result TypedExpr (End Fault)} {f : Fault}
    → r ≡ Err (ends.Fault f) → Judges (condition_in o around rows e) r → Tells (while_holds o around e rows) (Err f)
not_held o around e rows sound is told = made_in_err (condition_in o around rows e) (while_true (expr_span e) rows) sound refl (told_fault (condition_in o around rows e) is told)

-- of an element that is there for each row of a model
pub rowed : (o : Outline) (around : Site) (n : ℕ) (f : For) (rows : List RowNames) → Sound (model_in o around rows (out-For f).model) → {r : Result TypedFor (End Fault)} {t : TypedFor} {inside : Inside}
    → r ≡ Ok t → Judges (model_in o around rows (out-For f).model) r → inside ≡ in_each_row n f rows t → Tells (for_each_row o around n f rows) (Ok inside)
rowed o around n f rows sound {t = t} is told same =
    subst (λ i. Tells (for_each_row o around n f rows) (Ok i)) (sym same) (made_in_ok (model_in o around rows (out-For f).model) (in_each_row n f rows) sound refl (told_result (model_in o around rows (out-For f).model) is told))

pub not_rowed : (o : Outline) (around : Site) (n : ℕ) (f : For) (rows : List RowNames) → Sound (model_in o around rows (out-For f).model) → {r : Result TypedFor (End Fault)} {g : Fault}
    → r ≡ Err (ends.Fault g) → Judges (model_in o around rows (out-For f).model) r → Tells (for_each_row o around n f rows) (Err g)
not_rowed o around n f rows sound is told = made_in_err (model_in o around rows (out-For f).model) (in_each_row n f rows) sound refl (told_fault (model_in o around rows (out-For f).model) is told)
