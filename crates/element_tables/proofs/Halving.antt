-- What a search by halving finds in a table whose keys rise.
use Rattle.std.proofs.Common.{◌≡◌, ℕ, zero, suc, ◌<◌, ◌⊎◌, inl, inr, Bool, true, false, ◌&&◌, if◌then◌else◌, List, [], ◌∷◌, map, length, get_or, Some, None, Result, Ok, Err, refl, sym, ap, ◌∙◌, subst, arith, true≢false}
use Rattle.std.proofs.lemmas.Bool.{cases_lt}
use Rattle.std.proofs.lemmas.Cmp.{alike_right}
use Rattle.std.proofs.lemmas.List.{length-map, get_or-map}
use Rattle.std.proofs.lemmas.List.Sorted.{searchable_from_sorted}
use Rattle.std.specs.Cmp.{IsTotalOrder}
use Rattle.std.specs.List.Sorted.{IsBinarySearchResult, IsSearchInRange, IsSortedBy, IsPartitionPoint}
use Rattle.std.specs.Ordering.{is_lt, is_eq, ordering_reverse}
use Rattle.std.specs.declared.cmp.Ordering.{Ordering}
use Rattle.std.specs.declared.cmp.Ordering.TheVariants.{Less, Equal, Greater}
use Rattle.element_tables.specs.Rows.{beside, is_below, is_rising}

both : (a b : Bool) → (a && b) ≡ true → (a ≡ true) × (b ≡ true)
both true true h = (refl, refl)
both true false h = absurd (true≢false (sym h))
both false b h = absurd (true≢false (sym h))

is_Less : (r : Ordering) → is_lt r ≡ true → r ≡ Less
is_Less Less h = refl
is_Less Equal h = absurd (true≢false (sym h))
is_Less Greater h = absurd (true≢false (sym h))

is_apart : (r : Ordering) → (r ≡ Less) ⊎ (r ≡ Greater) → is_eq r ≡ false
is_apart r (inl e) = ap is_eq e
is_apart r (inr e) = ap is_eq e

module _ {K T : Type 0} {R : K → K → Ordering} (o : IsTotalOrder R) where
  -- the first key is below the next one
  next : (row : K × T) (r : K × T) (rows : List (K × T)) → is_rising R (row ∷ r ∷ rows) ≡ true → R row.0 r.0 ≡ Less
  next row r rows up = is_Less _ (both _ _ up).0

  rest_rises : (row : K × T) (rows : List (K × T)) → is_rising R (row ∷ rows) ≡ true → is_rising R rows ≡ true
  rest_rises row rows up = (both (is_below R row.0 rows) _ up).1

  -- the first key is below all others
  below_later : (row : K × T) (rows : List (K × T)) (m : ℕ) (d : K × T) → m < length rows → is_rising R (row ∷ rows) ≡ true → R row.0 (get_or rows m d).0 ≡ Less
  below_later row [] m d h up = absurd (omega arith)
  below_later row (r ∷ rows) zero d h up = next row r rows up
  below_later row (r ∷ rows) (suc m) d h up = o.trans _ _ _ (next row r rows up) (below_later r rows m d (omega arith) (rest_rises row (r ∷ rows) up))

  -- neighbours rise
  rises_at : (rows : List (K × T)) (m : ℕ) (d : K × T) → suc m < length rows → is_rising R rows ≡ true → R (get_or rows m d).0 (get_or rows (suc m) d).0 ≡ Less
  rises_at [] m d h up = absurd (omega arith)
  rises_at (row ∷ rows) zero d h up = below_later row rows zero d (omega arith) up
  rises_at (row ∷ rows) (suc m) d h up = rises_at rows m d (omega arith) (rest_rises row rows up)

  -- a row whose key ties with a key is the one that is found
  pub beside_at : (k : K) (rows : List (K × T)) (m : ℕ) (d : K × T) → m < length rows → is_rising R rows ≡ true → R (get_or rows m d).0 k ≡ Equal
      → beside (λ q. is_eq (R q k)) rows ≡ Some (get_or rows m d).1
  beside_at k [] m d h up e = absurd (omega arith)
  beside_at k (row ∷ rows) zero d h up e = ap (λ (r : Ordering). if is_eq r then Some row.1 else beside (λ q. is_eq (R q k)) rows) e
  beside_at k (row ∷ rows) (suc m) d h up e =
      ap (λ (r : Ordering). if is_eq r then Some row.1 else beside (λ q. is_eq (R q k)) rows) (sym (alike_right o _ k row.0 e) ∙ below_later row rows m d (omega arith) up)
      ∙ beside_at k rows m d (omega arith) (rest_rises row rows up) e

  -- without a row whose key ties nothing is found
  pub beside_none : (k : K) (rows : List (K × T)) → ((m : ℕ) (d : K × T) → m < length rows → is_eq (R (get_or rows m d).0 k) ≡ false) → beside (λ q. is_eq (R q k)) rows ≡ None
  beside_none k [] h = refl
  beside_none k (row ∷ rows) h =
      ap (λ (b : Bool). if b then Some row.1 else beside (λ q. is_eq (R q k)) rows) (h zero row (omega arith))
      ∙ beside_none k rows (λ m d l. h (suc m) d (omega arith))

  -- the table as code has it, and its rows
  module _ {X : Type 0} (f : X → K × T) (k : K) (xs : List X) (up : is_rising R (map f xs) ≡ true) where
    sorted_rows : IsSortedBy (λ a b. is_lt (R (f a).0 (f b).0)) xs
    sorted_rows m d low high =
        let at = get_or-map f xs m d (f d) (omega arith) in
        let at_next = get_or-map f xs (suc m) d (f d) (omega arith) in
        let less : R (f (get_or xs m d)).0 (f (get_or xs (suc m) d)).0 ≡ Less
        = subst (λ (a : K × T). R a.0 (f (get_or xs (suc m) d)).0 ≡ Less) at
        (subst (λ (b : K × T). R (get_or (map f xs) m (f d)).0 b.0 ≡ Less) at_next
        (rises_at (map f xs) m (f d) (subst (λ (n : ℕ). suc m < n) (sym (length-map xs f)) (omega arith)) up)) in
        subst (λ (n : ℕ). is_lt (R (f (get_or xs n d)).0 (f (get_or xs m d)).0) ≡ false) {x = suc m} (omega arith)
        (ap is_lt (o.antisymm _ _ ∙ ap ordering_reverse less))

    -- an element of a list that isn't empty
    some_of : (ys : List X) (m : ℕ) → m < length ys → X
    some_of [] m h = absurd (omega arith)
    some_of (y ∷ ys) m h = y

    either_side : (at m : ℕ) (x : X) → m < length xs → IsPartitionPoint (λ x. R (f x).0 k ≡ Less) (λ x. R (f x).0 k ≡ Greater) xs at
        → (R (f (get_or xs m x)).0 k ≡ Less) ⊎ (R (f (get_or xs m x)).0 k ≡ Greater)
    either_side at m x inside point = elim (cases_lt m at) [ inl below ↦ inl (point.0 m x (omega arith) below) | inr above ↦ inr (point.1 m x above inside) ]

    abbrev pub AnswersRow : Result ℕ ℕ → Type 0
    AnswersRow (Ok at) = (d : X) → beside (λ q. is_eq (R q k)) (map f xs) ≡ Some (f (get_or xs at d)).1
    AnswersRow (Err at) = beside (λ q. is_eq (R q k)) (map f xs) ≡ None

    -- what a search by halving answers
    pub searched : (r : Result ℕ ℕ) → IsSearchInRange r (length xs) → IsBinarySearchResult (λ x. R (f x).0 k) xs r → AnswersRow r
    searched (Ok at) within here = λ d.
        let same = get_or-map f xs at d (f d) within in
        beside_at k (map f xs) at (f d) (subst (λ (n : ℕ). at < n) (sym (length-map xs f)) within) up (ap (λ (a : K × T). R a.0 k) same ∙ here d)
        ∙ ap (λ (a : K × T). Some a.1) same
    searched (Err at) within parts =
        let point : IsPartitionPoint (λ x. R (f x).0 k ≡ Less) (λ x. R (f x).0 k ≡ Greater) xs at = parts (searchable_from_sorted o (λ x. (f x).0) xs k sorted_rows) in
        beside_none k (map f xs) (λ m d l.
        let inside : m < length xs = subst (λ (n : ℕ). m < n) (length-map xs f) l in
        let x = some_of xs m inside in
        rw (get_or-map f xs m x d inside) (is_apart _ (either_side at m x inside point)))
