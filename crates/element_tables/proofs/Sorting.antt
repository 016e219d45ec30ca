-- Rows put in the order of their keys hold the same.
use Rattle.std.proofs.Common.{◌≡◌, Bool, true, false, if◌then◌else◌, List, [], ◌∷◌, Option, Some, refl, sym, ap, ◌∙◌, true≢false}
use Rattle.std.proofs.lemmas.Cmp.{alike_right}
use Rattle.std.specs.Cmp.{IsTotalOrder}
use Rattle.std.specs.Ordering.{is_gt, is_eq}
use Rattle.std.specs.declared.cmp.Ordering.{Ordering}
use Rattle.std.specs.declared.cmp.Ordering.TheVariants.{Less, Equal, Greater}
use Rattle.element_tables.specs.Rows.{beside, insert_row, sorted}

is_Equal : (r : Ordering) → is_eq r ≡ true → r ≡ Equal
is_Equal Less h = absurd (true≢false (sym h))
is_Equal Equal h = refl
is_Equal Greater h = absurd (true≢false (sym h))

-- two tests of which at most one passes may stand in either order
pub either_order : {T : Type 0} (a b : Bool) (x y w z : Option T) → (a ≡ true → b ≡ true → ⊥) → w ≡ (if a then x else z)
    → (if b then y else w) ≡ (if a then x else (if b then y else z))
either_order true true x y w z apart h = absurd (apart refl refl)
either_order true false x y w z apart h = h
either_order false true x y w z apart h = refl
either_order false false x y w z apart h = h

-- a key that is above another doesn't tie with what that ties with
above : {K : Type 0} {R : K → K → Ordering} (o : IsTotalOrder R) (k p q : K) → is_gt (R p q) ≡ true → is_eq (R p k) ≡ true → is_eq (R q k) ≡ true → ⊥
above o k p q gt a b = true≢false (sym gt ∙ ap is_gt (alike_right o q k p (is_Equal _ b) ∙ is_Equal _ a))

module _ {K T : Type 0} {R : K → K → Ordering} (o : IsTotalOrder R) (k : K) where
  beside-insert_row : (row : K × T) (rows : List (K × T)) → beside (λ q. is_eq (R q k)) (insert_row R row rows) ≡ beside (λ q. is_eq (R q k)) (row ∷ rows)
  beside-insert_row row [] = refl
  beside-insert_row row (r ∷ rows) = by (is_gt (R row.0 r.0)) refl (beside-insert_row row rows)
    where
      by : (b : Bool) → is_gt (R row.0 r.0) ≡ b → beside (λ q. is_eq (R q k)) (insert_row R row rows) ≡ beside (λ q. is_eq (R q k)) (row ∷ rows)
          → beside (λ q. is_eq (R q k)) (if b then r ∷ insert_row R row rows else row ∷ r ∷ rows) ≡ beside (λ q. is_eq (R q k)) (row ∷ r ∷ rows)
      by true gt rest = either_order (is_eq (R row.0 k)) (is_eq (R r.0 k)) (Some row.1) (Some r.1) _ (beside (λ q. is_eq (R q k)) rows) (above o k row.0 r.0 gt) rest
      by false gt rest = refl

  -- what is found does not depend on the order of the rows
  pub beside-sorted : (rows : List (K × T)) → beside (λ q. is_eq (R q k)) (sorted R rows) ≡ beside (λ q. is_eq (R q k)) rows
  beside-sorted [] = refl
  beside-sorted (row ∷ rows) = beside-insert_row row (sorted R rows) ∙ ap (λ (found : Option T). if is_eq (R row.0 k) then Some row.1 else found) (beside-sorted rows)
