-- The fronts of a chain of operands.
use Rattle.std.proofs.Common.{◌≡◌, ℕ, suc, ◌+◌, ◌<◌, Bool, true, List, [], ◌∷◌, ◌++◌, length, take, get_or, reverse, sym, ◌∙◌, ap, refl, arith, subst, IfOk, Result}
use Rattle.std.specs.Prelude.{nat_lt}
use Rattle.std.proofs.lemmas.Bool.Decides.{nat_tests}
use Rattle.std.proofs.lemmas.List.{length-reverse, length-take-le, take_more}
use Rattle.slint_base.specs.declared.endings.Memory.{Memory}
use Rattle.slint_base.specs.declared.faults.Fault.{Fault}
use Rattle.slint_base.specs.declared.faults.Span.{Span}
use Rattle.element_tables.specs.declared.operators.Op.{Op}
use Rattle.syntax_tree.specs.declared.expressions.Expr.{Expr}
use Rattle.syntax_tree.specs.declared.expressions.Operand.{Operand, out-Operand}
use Rattle.syntax_tree.specs.Spans.{expr_span}
use Rattle.expr_rules.specs.declared.judged.Judged.{Judged}
use Rattle.expr_rules.specs.Denotations.{given}
use Rattle.expr_rules.specs.Own.{as_judged, binary_op, chained_own, goes_on, joined, of_two, operation_on}
use Rattle.expr_rules.proofs.Zips.{last_first}

-- one operator behind a front, with its operand
abbrev pub step_on : Bool → Expr → Operand → List Judged → Result Judged Fault
step_on goes e o xs =
    of_two (λ x y. as_judged (operation_on goes (binary_op (out-Operand o).op) (joined (expr_span e) (expr_span (out-Operand o).right)) (given x) (given y))) xs

more_than_one : (n : ℕ) → true ≡ nat_lt 1 (suc n + 1)
more_than_one n = grind (arith, nat_tests)

goes_on-length : (os : List Operand) → goes_on os ≡ nat_lt 1 (length os + 1)
goes_on-length [] = refl
goes_on-length (o ∷ os) = more_than_one (length os)

pub chained_at : (e : Expr) (os : List Operand) (count n : ℕ) (o : Operand) (xs : List Judged) → count ≡ n + 1 → n < length os → o ≡ get_or os n o
    → step_on (nat_lt 1 count) e o xs ≡ chained_own e (reverse (take count os)) xs
chained_at e os count n o xs is within at_o =
    let front : reverse (take count os) ≡ o ∷ reverse (take n os) = ap (λ k. reverse (take k os)) is ∙ last_first (take (n + 1) os) (take n os) o (take_more os n o within ∙ ap (λ (y : Operand). take n os ++ y ∷ []) (sym at_o)) in
    let many : goes_on (reverse (take n os)) ≡ nat_lt 1 count =
    goes_on-length (reverse (take n os)) ∙ ap (λ k. nat_lt 1 (k + 1)) (length-reverse (take n os) ∙ length-take-le n os (omega arith)) ∙ ap (nat_lt 1) (sym is) in
    sym (ap (λ before. chained_own e before xs) front ∙ ap (λ goes. step_on goes e o xs) many)

-- what the code comes to with an operator and a stretch of its own
pub chained_from : (e : Expr) (os : List Operand) (count n : ℕ) (o : Operand) (xs : List Judged) (op : Op) (span a b : Span) (r : Result (Result Judged Fault) Memory)
    → count ≡ n + 1 → n < length os → o ≡ get_or os n o → op ≡ binary_op (out-Operand o).op → span ≡ joined a b → a ≡ expr_span e → b ≡ expr_span (out-Operand o).right
    → IfOk r (λ judged. judged ≡ of_two (λ x y. as_judged (operation_on (nat_lt 1 count) op span (given x) (given y))) xs)
    → IfOk r (λ judged. judged ≡ chained_own e (reverse (take count os)) xs)
chained_from e os count n o xs op span a b r is within at_o by stretch first last held =
    let whole : span ≡ joined (expr_span e) (expr_span (out-Operand o).right) = stretch ∙ ap (λ s. joined s b) first ∙ ap (λ s. joined (expr_span e) s) last in
    let same : of_two (λ x y. as_judged (operation_on (nat_lt 1 count) op span (given x) (given y))) xs ≡ chained_own e (reverse (take count os)) xs =
    ap (λ p. of_two (λ x y. as_judged (operation_on (nat_lt 1 count) p span (given x) (given y))) xs) by
    ∙ ap (λ s. of_two (λ x y. as_judged (operation_on (nat_lt 1 count) (binary_op (out-Operand o).op) s (given x) (given y))) xs) whole ∙ chained_at e os count n o xs is within at_o in
    subst (λ z. IfOk r (λ judged. judged ≡ z)) same held
